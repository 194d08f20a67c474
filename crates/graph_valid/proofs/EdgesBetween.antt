-- Each edge leads from a state that is there to one of the next level, and each state of that has an edge into it.
use Rattle.std.proofs.Common.{◌≡◌, ℕ, ◌+◌, ◌<◌, List, [], ◌∷◌, length, sym, ap, ◌∙◌, subst, arith}
use Rattle.std.specs.Prelude.{IsSome, is_some, find, ◌==◌}
use Rattle.std.specs.List.{AllByRecursion}
use Rattle.std.proofs.lemmas.Option.{slice_get_within}
use Rattle.lists.specs.Zipped.{zip_with}
use Rattle.lists.proofs.Elements.{recursion_weaker, element}
use Rattle.job_model.specs.Table.{Table}
use Rattle.sag_step.specs.State.{SystemState}
use Rattle.sag_step.specs.Offers.{Offer, offers}
use Rattle.sag_step.specs.Group.{group, placed, places_of}
use Rattle.sag_graph.specs.declared.edge.Edge.{Edge}
use Rattle.sag_graph.specs.Levels.{Level, edge_to, level_at}
use Rattle.graph_valid.specs.Laws.{IsEdgeBetween, EdgesNameStates, EachStateHasEdge}
use Rattle.graph_valid.proofs.FromRoot.{founders, level_after}
use Rattle.graph_valid.proofs.Levels.{IsOfferOf, are_offers}
use Rattle.graph_valid.proofs.Spans.{IsStart, offer_starts, edge_starts, zipped}
use Rattle.graph_valid.proofs.Counts.{targets_below}
use Rattle.graph_valid.proofs.SameLevels.{edges_same, first_edge, founders_long, level_is_after}

zipped_from : (count : ℕ) (os : List Offer) (states : List SystemState) → AllByRecursion (λ (o : Offer). o.from < count) os →
    AllByRecursion (λ (e : Edge). e.from < count) (zip_with edge_to os (places_of states os))
zipped_from count [] states all = tt
zipped_from count (o ∷ os) states all = (all.0, zipped_from count os (placed states o.next) all.1)

module _ (table : Table) (before : List SystemState) where
  abbrev os : List Offer
  os = offers table before

  pub froms_below : AllByRecursion (λ (e : Edge). e.from < length before) (level_after table before).edges
  froms_below = zipped_from (length before) os []
      (recursion_weaker (IsOfferOf table before) (λ (o : Offer). o.from < length before) (λ o of. slice_get_within before o.from of.parent of.there) os (are_offers table before))

  pub jobs_start : AllByRecursion (edge_starts table) (level_after table before).edges
  jobs_start = zipped (IsStart table) os []
      (recursion_weaker (IsOfferOf table before) (λ (o : Offer). IsStart table o.job o.window) (offer_starts table before) os (are_offers table before))

  together : (es : List Edge) → AllByRecursion (λ (e : Edge). e.from < length before) es → AllByRecursion (edge_starts table) es →
      AllByRecursion (λ (e : Edge). e.to < length (group os)) es → AllByRecursion (IsEdgeBetween table before (group os)) es
  together [] from start to = tt
  together (e ∷ es) from start to = (record { from_state = from.0; of_job = start.0.is_job; to_state = to.0 }, together es from.1 start.1 to.1)

  edges_between : AllByRecursion (IsEdgeBetween table before (group os)) (level_after table before).edges
  edges_between = together (level_after table before).edges froms_below jobs_start (targets_below os [])

  -- the first edge into a state is its founder's
  state_has : (i : ℕ) → i < length (group os) → IsSome (find (λ (e : Edge). e.to == i) (level_after table before).edges)
  state_has i below =
      let found = element (founders [] os) i (omega (arith, below, founders_long table before)) in
      let number : 0 + i ≡ i = omega arith in
      let first : IsSome (find (λ (e : Edge). e.to == 0 + i) (level_after table before).edges) =
      ap is_some (ap (λ (es : List Edge). find (λ (e : Edge). e.to == 0 + i) es) (sym (edges_same os [])) ∙ first_edge os [] i found.0 found.1) in
      subst (λ k. IsSome (find (λ (e : Edge). e.to == k) (level_after table before).edges)) number first

pub edges_name_states : EdgesNameStates
edges_name_states table m k =
    let before = (level_at table m k).states in
    subst (λ (l : Level). AllByRecursion (IsEdgeBetween table before l.states) l.edges) (sym (level_is_after table m k)) (edges_between table before)

pub each_state_has_edge : EachStateHasEdge
each_state_has_edge table m k i below =
    let before = (level_at table m k).states in
    subst (λ (l : Level). IsSome (find (λ (e : Edge). e.to == i) l.edges)) (sym (level_is_after table m k))
    (state_has table before i (subst (λ (l : Level). i < length l.states) (level_is_after table m k) below))
