-- The edges that start another job from a state without the edited job are the same, by ranks.
use Rattle.std.proofs.Common.{◌≡◌, ℕ, ◌+◌, Bool, true, false, cond, not, eqb, ◌||◌, List, [], ◌∷◌, ◌++◌, drop, map, filter, get_or, refl, ap, sym, ◌∙◌}
use Rattle.std.specs.List.{flat_map, fold, enumerate_from}
use Rattle.std.proofs.lemmas.List.{map-append}
use Rattle.std.proofs.lemmas.List.Elements.{filter-append}
use Rattle.std.proofs.lemmas.List.Sums.{fold-append}
use Rattle.job_model.specs.Table.{Table}
use Rattle.start_windows.specs.declared.StartWindow.{StartWindow}
use Rattle.sag_step.specs.State.{SystemState}
use Rattle.sag_step.specs.Next.{next}
use Rattle.sag_step.specs.Widen.{states_touch, state_hull}
use Rattle.sag_step.specs.Group.{placed, place_of}
use Rattle.sag_graph.specs.declared.edge.Edge.{Edge}
use Rattle.sag_graph.specs.Levels.{level_at, next_level}
use Rattle.graph_rework.specs.declared.link.Link.{Link}
use Rattle.graph_rework.specs.Edit.{IsEdit, stays}
use Rattle.graph_rework.specs.Order.{ranks_from}
use Rattle.graph_rework.specs.Links.{edge_from, links_of, links_out, offered, taken_after, windows_of}
use Rattle.graph_rework.specs.Remake.{all_offered, no_state}
use Rattle.graph_rework.specs.Bound.{is_reworked, ranked_edge, staying_edges}
use Rattle.graph_rework.specs.Laws.{EdgesStay}
use Rattle.graph_rework.proofs.Grouping.{ranks-all}
use Rattle.graph_rework.proofs.Windows.{apart, next-stays, windows_of-stay}
use Rattle.graph_rework.proofs.Reworks.{eqb-false, filter-other, filter-own, has-own, stays-after}
use Rattle.graph_rework.proofs.Levels.{drop-head, drop-tail, filter-fold_stays, offered-stay, taken-other}
use Rattle.graph_rework.proofs.LevelOffers.{links_are_edges, states-are}
use Rattle.graph_rework.proofs.StayingStates.{states_stay}

-- ---- by the states that stay alone

-- the edges out of the state of rank r by other jobs, where the states that stay of the next level so far are `taken`
abbrev own_class : ℕ → Table → ℕ → SystemState → List SystemState → List (ℕ × StartWindow) → List Edge
own_class e table r s taken [] = []
own_class e table r s taken (w ∷ ws) =
    cond (eqb w.0 e) (own_class e table r s taken ws)
    (record { from = r; job = w.0; window = w.1; to = place_of taken (next table s w.0 w.1) } ∷ own_class e table r s (placed taken (next table s w.0 w.1)) ws)

-- the same of all states that stay, from rank r on
abbrev class_edges : ℕ → Table → ℕ → List SystemState → List SystemState → List Edge
class_edges e table r taken [] = []
class_edges e table r taken (s ∷ states) =
    own_class e table r s taken (windows_of table s) ++ class_edges e table (r + 1) (fold placed taken (filter (stays e) (offered table s (windows_of table s)))) states

-- ---- one table

module _ (e : ℕ) (table : Table) (all : List SystemState) (from_ranks to_ranks : List ℕ) where
  abbrev keep : Edge → Bool
  keep edge = not (is_reworked e all edge)

  abbrev by_ranks : List Edge → List Edge
  by_ranks edges = map (ranked_edge from_ranks to_ranks) (filter keep edges)

  none-kept : (n : ℕ) → stays e (get_or all n no_state) ≡ false → (ls : List Link) → filter keep (map (edge_from n) ls) ≡ []
  none-kept n gone [] = refl
  none-kept n gone (l ∷ ls) =
      let rest : List Edge = filter keep (map (edge_from n) ls) in
      let out : keep (edge_from n l) ≡ false = ap (λ b. not (eqb l.job e || not b)) gone ∙ elim (eqb l.job e) as (λ b. not (b || true) ≡ false) [ true ↦ refl | false ↦ refl ] in
      ap (λ b. cond b (edge_from n l ∷ rest) rest) out ∙ none-kept n gone ls

  module _ (n r : ℕ) (s : SystemState) (stay : stays e s ≡ true) (here : get_or all n no_state ≡ s) (rank : get_or from_ranks n 0 ≡ r) (more : List SystemState) where
    abbrev own_edges : List SystemState → List (ℕ × StartWindow) → List Edge
    own_edges taken ws = map (edge_from n) (links_of table s taken ws)

    abbrev Ranked : List SystemState → List (ℕ × StartWindow) → Type 0
    Ranked taken ws =
        to_ranks ≡ ranks_from (stays e) 0 (fold placed (fold placed taken (offered table s ws)) more) → by_ranks (own_edges taken ws) ≡ own_class e table r s (filter (stays e) taken) ws

    kept-by : (taken : List SystemState) (w : ℕ × StartWindow) (ws : List (ℕ × StartWindow)) (b : Bool) → eqb w.0 e ≡ b → Ranked (placed taken (next table s w.0 w.1)) ws → Ranked taken (w ∷ ws)
    kept-by taken w ws true own ih are =
        let o : SystemState = next table s w.0 w.1 in
        let edge : Edge = edge_from n (record { job = w.0; window = w.1; to = place_of taken o }) in
        let rest : List Edge = filter keep (own_edges (placed taken o) ws) in
        let out : keep edge ≡ false = ap (λ b. not (b || not (stays e (get_or all n no_state)))) own in
        let later : List Edge = own_class e table r s (filter (stays e) taken) ws in
        ap (λ b. map (ranked_edge from_ranks to_ranks) (cond b (edge ∷ rest) rest)) out ∙ ih are
        ∙ ap (λ ss. own_class e table r s ss ws) (filter-other e taken o (has-own e table s w.0 w.1 own))
        ∙ sym (ap (λ b. cond b later (record { from = r; job = w.0; window = w.1; to = place_of (filter (stays e) taken) o } ∷ own_class e table r s (placed (filter (stays e) taken) o) ws)) own)
    kept-by taken w ws false other ih are =
        let o : SystemState = next table s w.0 w.1 in
        let edge : Edge = edge_from n (record { job = w.0; window = w.1; to = place_of taken o }) in
        let rest : List Edge = filter keep (own_edges (placed taken o) ws) in
        let within : keep edge ≡ true = ap (λ b. not (b || not (stays e (get_or all n no_state)))) other ∙ ap (λ x. not (not (stays e x))) here ∙ ap (λ b. not (not b)) stay in
        let class_stays : stays e o ≡ true = stays-after e table s w.0 w.1 stay other in
        let to : get_or to_ranks (place_of taken o) 0 ≡ place_of (filter (stays e) taken) o =
        ap (λ rs. get_or rs (place_of taken o) 0) (are ∙ ap (ranks_from (stays e) 0) (sym (fold-append placed (placed taken o) (offered table s ws) more)))
        ∙ ranks-all states_touch state_hull (stays e) (apart e) taken (offered table s ws ++ more) o class_stays in
        let later : List Edge = own_class e table r s (filter (stays e) taken) ws in
        let first : ℕ → ℕ → Edge = λ a b. record { from = a; job = w.0; window = w.1; to = b } in
        ap (λ b. map (ranked_edge from_ranks to_ranks) (cond b (edge ∷ rest) rest)) within
        ∙ ap (λ a. first a (get_or to_ranks (place_of taken o) 0) ∷ map (ranked_edge from_ranks to_ranks) rest) rank
        ∙ ap (λ b. first r b ∷ map (ranked_edge from_ranks to_ranks) rest) to
        ∙ ap (λ es. first r (place_of (filter (stays e) taken) o) ∷ es) (ih are)
        ∙ ap (λ ss. first r (place_of (filter (stays e) taken) o) ∷ own_class e table r s ss ws) (filter-own e taken o class_stays)
        ∙ sym (ap (λ b. cond b later (first r (place_of (filter (stays e) taken) o) ∷ own_class e table r s (placed (filter (stays e) taken) o) ws)) other)

    own-ranked : (taken : List SystemState) (ws : List (ℕ × StartWindow)) → Ranked taken ws
    own-ranked taken [] are = refl
    own-ranked taken (w ∷ ws) are = kept-by taken w ws (eqb w.0 e) refl (own-ranked (placed taken (next table s w.0 w.1)) ws) are

  abbrev edges_out : ℕ → List SystemState → List SystemState → List Edge
  edges_out n taken states = flat_map (λ l. map (edge_from l.0) l.1) (enumerate_from n (links_out table taken states))

  append-ranked : (xs ys : List Edge) → by_ranks (xs ++ ys) ≡ by_ranks xs ++ by_ranks ys
  append-ranked xs ys = ap (map (ranked_edge from_ranks to_ranks)) (filter-append keep xs ys) ∙ map-append (ranked_edge from_ranks to_ranks) (filter keep xs) (filter keep ys)

  ranked-by : (n r : ℕ) (s : SystemState) (taken states : List SystemState) (b : Bool) → stays e s ≡ b → drop n all ≡ s ∷ states →
      drop n from_ranks ≡ r ∷ ranks_from (stays e) (cond b (r + 1) r) states → to_ranks ≡ ranks_from (stays e) 0 (fold placed taken (all_offered table (s ∷ states))) →
      ((q : ℕ) → drop (n + 1) from_ranks ≡ ranks_from (stays e) q states →
      by_ranks (edges_out (n + 1) (taken_after table taken s) states) ≡ class_edges e table q (filter (stays e) (taken_after table taken s)) (filter (stays e) states)) →
      by_ranks (edges_out n taken (s ∷ states)) ≡ class_edges e table r (filter (stays e) taken) (cond b (s ∷ filter (stays e) states) (filter (stays e) states))
  ranked-by n r s taken states true stay at_all at_ranks are ih =
      let ws : List (ℕ × StartWindow) = windows_of table s in
      let own : List Edge = map (edge_from n) (links_of table s taken ws) in
      let later : List Edge = edges_out (n + 1) (taken_after table taken s) states in
      let here : get_or all n no_state ≡ s = drop-head n all s states no_state at_all in
      let rank : get_or from_ranks n 0 ≡ r = drop-head n from_ranks r (ranks_from (stays e) (r + 1) states) 0 at_ranks in
      append-ranked own later
      ∙ ap (λ es. es ++ by_ranks later)
      (own-ranked n r s stay here rank (all_offered table states) taken ws (are ∙ ap (ranks_from (stays e) 0) (fold-append placed taken (offered table s ws) (all_offered table states))))
      ∙ ap (λ es. own_class e table r s (filter (stays e) taken) ws ++ es) (ih (r + 1) (drop-tail n from_ranks r (ranks_from (stays e) (r + 1) states) at_ranks))
      ∙ ap (λ ss. own_class e table r s (filter (stays e) taken) ws ++ class_edges e table (r + 1) ss (filter (stays e) states)) (filter-fold_stays e taken (offered table s ws))
  ranked-by n r s taken states false gone at_all at_ranks are ih =
      let ws : List (ℕ × StartWindow) = windows_of table s in
      let own : List Edge = map (edge_from n) (links_of table s taken ws) in
      let later : List Edge = edges_out (n + 1) (taken_after table taken s) states in
      let here : get_or all n no_state ≡ s = drop-head n all s states no_state at_all in
      append-ranked own later
      ∙ ap (λ es. map (ranked_edge from_ranks to_ranks) es ++ by_ranks later) (none-kept n (ap (stays e) here ∙ gone) (links_of table s taken ws))
      ∙ ih r (drop-tail n from_ranks r (ranks_from (stays e) r states) at_ranks)
      ∙ ap (λ ss. class_edges e table r ss (filter (stays e) states)) (taken-other e table taken s gone)

  all-ranked : (n r : ℕ) (taken states : List SystemState) → drop n all ≡ states → drop n from_ranks ≡ ranks_from (stays e) r states →
      to_ranks ≡ ranks_from (stays e) 0 (fold placed taken (all_offered table states)) →
      by_ranks (edges_out n taken states) ≡ class_edges e table r (filter (stays e) taken) (filter (stays e) states)
  all-ranked n r taken [] at_all at_ranks are = refl
  all-ranked n r taken (s ∷ states) at_all at_ranks are =
      let later : to_ranks ≡ ranks_from (stays e) 0 (fold placed (taken_after table taken s) (all_offered table states)) =
      are ∙ ap (ranks_from (stays e) 0) (fold-append placed taken (offered table s (windows_of table s)) (all_offered table states)) in
      ranked-by n r s taken states (stays e s) refl at_all at_ranks are
      (λ q at. all-ranked (n + 1) q (taken_after table taken s) states (drop-tail n all s states at_all) at later)

level-edges : (e : ℕ) (table : Table) (states : List SystemState) → staying_edges e states (next_level table states) ≡ class_edges e table 0 [] (filter (stays e) states)
level-edges e table states =
    let from_ranks : List ℕ = ranks_from (stays e) 0 states in
    let to_ranks : List ℕ = ranks_from (stays e) 0 (next_level table states).states in
    ap (by_ranks e table states from_ranks to_ranks) (links_are_edges table states)
    ∙ all-ranked e table states from_ranks to_ranks 0 0 [] states refl refl (ap (ranks_from (stays e) 0) (states-are table states))

-- ---- both tables

module _ (e : ℕ) (before after : Table) (edit : IsEdit e before after) where
  same-own : (r : ℕ) (s : SystemState) (taken : List SystemState) (ws : List (ℕ × StartWindow)) → own_class e after r s taken ws ≡ own_class e before r s taken ws
  same-own r s taken [] = refl
  same-own r s taken (w ∷ ws) =
      let first : Table → SystemState → List Edge = λ table o. record { from = r; job = w.0; window = w.1; to = place_of taken o } ∷ own_class e table r s (placed taken o) ws in
      elim (eqb w.0 e) as (λ b. eqb w.0 e ≡ b →
      cond b (own_class e after r s taken ws) (first after (next after s w.0 w.1)) ≡ cond b (own_class e before r s taken ws) (first before (next before s w.0 w.1))) [
        | true ↦ λ h. same-own r s taken ws
        | false ↦ λ h.
            ap (first after) (next-stays e before after edit s w.0 w.1 (eqb-false w.0 e h))
            ∙ ap (λ es. record { from = r; job = w.0; window = w.1; to = place_of taken (next before s w.0 w.1) } ∷ es) (same-own r s (placed taken (next before s w.0 w.1)) ws)
      ] refl

  same-class : (r : ℕ) (taken states : List SystemState) → class_edges e after r taken (filter (stays e) states) ≡ class_edges e before r taken (filter (stays e) states)
  same-class r taken [] = refl
  same-class r taken (s ∷ states) =
      let ws : List (ℕ × StartWindow) = windows_of before s in
      let class : List SystemState = filter (stays e) states in
      let later : List SystemState = fold placed taken (filter (stays e) (offered before s ws)) in
      elim (stays e s) as (λ b. stays e s ≡ b → class_edges e after r taken (cond b (s ∷ class) class) ≡ class_edges e before r taken (cond b (s ∷ class) class)) [
        | true ↦ λ h.
            ap (λ vs. own_class e after r s taken vs ++ class_edges e after (r + 1) (fold placed taken (filter (stays e) (offered after s vs))) class) (windows_of-stay e before after edit s)
            ∙ ap (λ os. own_class e after r s taken ws ++ class_edges e after (r + 1) (fold placed taken os) class) (offered-stay e before after edit s ws h)
            ∙ ap (λ es. es ++ class_edges e after (r + 1) later class) (same-own r s taken ws)
            ∙ ap (λ es. own_class e before r s taken ws ++ es) (same-class (r + 1) later states)
        | false ↦ λ h. same-class r taken states
      ] refl

pub edges_stay : EdgesStay
unfolding level_at
edges_stay e before after edit m k =
    let old : List SystemState = (level_at before m k).states in
    let new : List SystemState = (level_at after m k).states in
    level-edges e after new ∙ ap (class_edges e after 0 []) (states_stay e before after edit m k)
    ∙ same-class e before after edit 0 [] old ∙ sym (level-edges e before old)
