-- Each job has an edge: no level is empty, and the states of level k have k jobs, each of which has an edge.
use Rattle.std.proofs.Common.{◌≡◌, ℕ, zero, suc, ◌+◌, ◌<◌, ◌≤◌, Bool, true, false, cond, List, [], ◌∷◌, ◌++◌, length, refl, sym, ap, ◌∙◌, subst, arith, length-append, append_assoc, append-nil, Option, Some, None, inl, inr}
use Rattle.std.specs.Prelude.{is_some, ◌==◌, filter_map, flat_map, option_map}
use Rattle.std.specs.List.{AllByRecursion, enumerate_from, range_with_len, cons_option}
use Rattle.std.specs.Option.{option_map_or}
use Rattle.std.proofs.lemmas.Bool.{or_cases, eqb-true, eq-eqb, false≢true, cases_lt}
use Rattle.lists.proofs.Elements.{recursion_weaker, each_at}
use Rattle.job_sets.specs.Subset.{Subset, IsSubset, is_member, with_number}
use Rattle.job_sets.proofs.Additions.{few_members, length-with_number, is_member-with_number, IsSubset-with_number}
use Rattle.job_model.specs.Table.{Table, IsTable}
use Rattle.sag_time.specs.Interval.{hull}
use Rattle.lists.specs.Zipped.{zip_with}
use Rattle.start_windows.specs.declared.StartWindow.{StartWindow}
use Rattle.start_windows.proofs.WindowFacts.{IsWindow-from}
use Rattle.sag_step.specs.State.{SystemState, root, first_core, state_window}
use Rattle.sag_step.specs.Shape.{IsState}
use Rattle.sag_step.specs.Next.{next}
use Rattle.sag_step.specs.Offers.{Offer, offers, offers_of}
use Rattle.sag_step.specs.Group.{group, placed, places_of}
use Rattle.sag_step.specs.Laws as state_law
use Rattle.sag_graph.specs.declared.edge.Edge.{Edge}
use Rattle.sag_graph.specs.Levels.{edge_to}
use Rattle.sag_graph.specs.Spans.{edge_finish}
use Rattle.graph_valid.proofs.FromRoot.{edges_of, level_after, levels_after, span_over}
use Rattle.graph_valid.proofs.FromRootLaws.{EachJobHasEdge}
use Rattle.graph_valid.proofs.Lists.{all-map}
use Rattle.graph_valid.proofs.Grouped.{Founded, group_founded, states-grouped, all-grouped}
use Rattle.graph_valid.proofs.Levels.{IsOfferOf, are_offers, offer_is_state}
use Rattle.graph_valid.proofs.Counts.{length-fold}

-- ---- jobs that have an edge

abbrev HasEdge : Table → List Edge → ℕ → Type 0
HasEdge table es j = is_some (span_over table j es) ≡ true

first_has : (table : Table) (e : Edge) (es : List Edge) → HasEdge table (e ∷ es) e.job
first_has table e es = at (e.job == e.job) (eq-eqb e.job e.job refl)
  where
    at : (b : Bool) → b ≡ true → is_some (cond b (Some (option_map_or (hull (edge_finish table e)) (span_over table e.job es) (edge_finish table e))) (span_over table e.job es)) ≡ true
    at true is = refl
    at false is = absurd (false≢true is)

later_has : (table : Table) (e : Edge) (es : List Edge) (j : ℕ) → HasEdge table es j → HasEdge table (e ∷ es) j
later_has table e es j has = at (e.job == j)
  where
    at : (b : Bool) → is_some (cond b (Some (option_map_or (hull (edge_finish table e)) (span_over table j es) (edge_finish table e))) (span_over table j es)) ≡ true
    at true = refl
    at false = has

all_have : (table : Table) (es : List Edge) → AllByRecursion (λ (e : Edge). HasEdge table es e.job) es
all_have table [] = tt
all_have table (e ∷ es) = (
  first_has table e es,
  recursion_weaker (λ (d : Edge). HasEdge table es d.job) (λ (d : Edge). HasEdge table (e ∷ es) d.job) (λ d has. later_has table e es d.job has) es (all_have table es),
)

-- the same of their offers
unzipped : (Q : ℕ → Type 0) (os : List Offer) (states : List SystemState) → AllByRecursion (λ (e : Edge). Q e.job) (zip_with edge_to os (places_of states os)) →
    AllByRecursion (λ (o : Offer). Q o.job) os
unzipped Q [] states all = tt
unzipped Q (o ∷ os) states all = (all.0, unzipped Q os (placed states o.next) all.1)

right_has : (table : Table) (ds es : List Edge) (j : ℕ) → HasEdge table es j → HasEdge table (ds ++ es) j
right_has table [] es j has = has
right_has table (d ∷ ds) es j has = later_has table d (ds ++ es) j (right_has table ds es j has)

left_has : (table : Table) (ds es : List Edge) (j : ℕ) → HasEdge table ds j → HasEdge table (ds ++ es) j
left_has table [] es j has = absurd (false≢true has)
left_has table (d ∷ ds) es j has = at (d.job == j) refl has (left_has table ds es j)
  where
    at : (b : Bool) → (d.job == j) ≡ b →
        is_some (cond b (Some (option_map_or (hull (edge_finish table d)) (span_over table j ds) (edge_finish table d))) (span_over table j ds)) ≡ true →
        (HasEdge table ds j → HasEdge table (ds ++ es) j) →
        is_some (cond b (Some (option_map_or (hull (edge_finish table d)) (span_over table j (ds ++ es)) (edge_finish table d))) (span_over table j (ds ++ es))) ≡ true
    at true is has rest = refl
    at false is has rest = rest has

-- ---- no level is empty

some_mapped : {Y : Type 0} (h : ℕ → Option Y) (n a j : ℕ) → a ≤ j → j < a + n → is_some (h j) ≡ true → 0 < length (filter_map h (range_with_len a n))
some_mapped h zero a j low high some = absurd (omega (arith, low, high))
some_mapped {Y = Y} h (suc n) a j low high some =
    elim (cases_lt a j) [
      | inl less ↦ later (h a) (some_mapped h n (a + 1) j (omega (arith, less)) (omega (arith, high)) some)
      | inr past ↦ let same : j ≡ a = omega (arith, past, low) in first (h a) (ap (λ k. is_some (h k)) (sym same) ∙ some)
    ]
  where
    later : (o : Option Y) → 0 < length (filter_map h (range_with_len (a + 1) n)) → 0 < length (cons_option o (filter_map h (range_with_len (a + 1) n)))
    later None rest = rest
    later (Some y) rest = omega arith

    first : (o : Option Y) → is_some o ≡ true → 0 < length (cons_option o (filter_map h (range_with_len (a + 1) n)))
    first None some = absurd (false≢true some)
    first (Some y) some = omega arith

is_some-map : {X Y : Type 0} (f : X → Y) (o : Option X) → is_some (option_map f o) ≡ is_some o
is_some-map f None = refl
is_some-map f (Some x) = refl

some_group : (os : List Offer) → 0 < length os → 0 < length (group os)
some_group [] some = absurd (omega (arith, some))
some_group (o ∷ os) some = omega (arith, length-fold os (o.next ∷ []))

-- a set of as many jobs as there are has each of them
full : (s : Subset) (j : ℕ) → IsSubset s → length s.members ≡ s.size → j < s.size → is_member j s.members ≡ true
full s j is all below = at (is_member j s.members) refl
  where
    at : (b : Bool) → is_member j s.members ≡ b → b ≡ true
    at true there = refl
    at false out =
        let most = few_members (record { size = s.size; members = with_number j s.members }) (IsSubset-with_number s j below is) in
        absurd (omega (arith, most, length-with_number j s.members out, all))

module _ (eligible : state_law.SomeStepIsLeft) (next_is_state : state_law.NextIsState) (hull_is_state : state_law.HullIsState) (table : Table) (m : ℕ) (is_table : IsTable table) where
  -- what the states of level k keep, over the edges of the levels up to it
  record IsSeen (k : ℕ) (done : List Edge) (s : SystemState) : Type 0 where
    is_state : IsState table m s
    count : length s.set.members ≡ k
    seen : (j : ℕ) → is_member j s.set.members ≡ true → HasEdge table done j

  module _ (k : ℕ) (done : List Edge) (before : List SystemState) (all : AllByRecursion (IsSeen k done) before) where
    abbrev own : List Edge
    own = (level_after table before).edges

    are : AllByRecursion (IsState table m) before
    are = recursion_weaker (IsSeen k done) (IsState table m) (λ s seen. seen.is_state) before all

    record IsOwn (o : Offer) : Type 0 where
      of_offer : IsOfferOf table before o
      has : HasEdge table own o.job

    own_offers : AllByRecursion IsOwn (offers table before)
    own_offers = both (offers table before) (are_offers table before) (unzipped (HasEdge table own) (offers table before) [] (all_have table own))
      where
        both : (os : List Offer) → AllByRecursion (IsOfferOf table before) os → AllByRecursion (λ (o : Offer). HasEdge table (level_after table before).edges o.job) os → AllByRecursion IsOwn os
        both [] ofs have = tt
        both (o ∷ os) ofs have = (record { of_offer = ofs.0; has = have.0 }, both os ofs.1 have.1)

    next_seen : (o : Offer) → IsOwn o → IsSeen (k + 1) (done ++ own) o.next
    next_seen o is =
        let of = is.of_offer in
        let parent : IsSeen k done of.parent = each_at (IsSeen k done) before o.from of.parent all of.there in
        let outside = (IsWindow-from table of.parent.set.members of.parent.ends (first_core of.parent) o.job o.window of.window).outside in
        let members : o.next.set.members ≡ with_number o.job of.parent.set.members = ap (λ (s : SystemState). s.set.members) of.next in
        record {
          is_state = offer_is_state next_is_state table m is_table before are o of;
          count = ap length members ∙ length-with_number o.job of.parent.set.members outside ∙ ap (λ n. n + 1) parent.count;
          seen = λ j there.
              elim (or_cases (o.job == j) (is_member j of.parent.set.members) (sym (is_member-with_number j o.job of.parent.set.members) ∙ ap (is_member j) (sym members) ∙ there)) [
                | inl same ↦ right_has table done own j (subst (HasEdge table own) (eqb-true o.job j same) is.has)
                | inr old ↦ left_has table done own j (parent.seen j old)
              ];
        }

    all_seen : AllByRecursion (IsSeen (k + 1) (done ++ own)) (group (offers table before))
    all_seen =
        subst (AllByRecursion (IsSeen (k + 1) (done ++ own))) (states-grouped [] (offers table before))
        (all-map (IsSeen (k + 1) (done ++ own)) (λ (f : Founded). f.state) (group_founded [] (offers table before))
        (all-grouped (λ o s. IsSeen (k + 1) (done ++ own) s) IsOwn next_seen
        (λ f s o seen is same. record {
          is_state = hull_is_state table m s o.next seen.is_state (offer_is_state next_is_state table m is_table before are o is.of_offer) same;
          count = seen.count;
          seen = seen.seen;
        })
        [] (offers table before) own_offers tt))

  some_offers : (before : List SystemState) (k : ℕ) (done : List Edge) → AllByRecursion (IsSeen k done) before → 0 < length before → k < length table.jobs → 0 < length (offers table before)
  some_offers [] k done all some fewer = absurd (omega (arith, some))
  some_offers (s ∷ ss) k done all some fewer =
      let found = eligible table m s is_table all.0.is_state (omega (arith, all.0.count, fewer)) in
      let h : ℕ → Option Offer = λ j. option_map (λ (w : StartWindow). record { from = 0; job = j; window = w; next = next table s j w }) (state_window table s j) in
      let own : 0 < length (offers_of table (0, s)) =
      some_mapped h (length table.jobs) 0 found.0 (omega arith) (omega (arith, found.1)) (is_some-map (λ (w : StartWindow). record { from = 0; job = found.0; window = w; next = next table s found.0 w }) (state_window table s found.0) ∙ found.2) in
      omega (arith, own, length-append (offers_of table (0, s)) (flat_map (offers_of table) (enumerate_from 1 ss)))

  all_edges : (n k : ℕ) (done : List Edge) (before : List SystemState) → k + n ≡ length table.jobs → AllByRecursion (IsSeen k done) before → 0 < length before →
      (j : ℕ) → j < length table.jobs → HasEdge table (done ++ edges_of (levels_after table n before)) j
  all_edges zero k done [] left all some j below = absurd (omega (arith, some))
  all_edges zero k done (s ∷ ss) left all some j below =
      let is = all.0.is_state in
      let there = full s.set j is.set (omega (arith, all.0.count, left, is.of_table)) (omega (arith, below, is.of_table)) in
      subst (λ es. HasEdge table es j) (sym (append-nil done)) (all.0.seen j there)
  all_edges (suc n) k done before left all some j below =
      let l = level_after table before in
      let next_some = some_group (offers table before) (some_offers before k done all some (omega (arith, left))) in
      subst (λ es. HasEdge table es j) (append_assoc done l.edges (edges_of (levels_after table n l.states)))
      (all_edges n (k + 1) (done ++ l.edges) l.states (omega (arith, left)) (all_seen k done before all) next_some j below)

pub each_job_has_edge : state_law.RootIsShaped → state_law.SomeStepIsLeft → state_law.NextIsState → state_law.HullIsState → EachJobHasEdge
each_job_has_edge root_is_shaped eligible next_is_state hull_is_state table m j is_table some below =
    all_edges eligible next_is_state hull_is_state table m is_table (length table.jobs) 0 [] (root table m ∷ []) (omega arith)
    (record { is_state = (root_is_shaped table m some).is_state; count = refl; seen = λ j there. absurd (false≢true there) }, tt) (omega arith) j below
