-- Each edge of the graph is a step: offers are steps, and edges come from offers.
use Rattle.std.proofs.Common.{◌≡◌, ℕ, suc, ◌+◌, List, [], ◌∷◌, length, refl, sym, ap, ◌∙◌, subst, arith}
use Rattle.std.specs.Prelude.{slice_get, filter_map, flat_map, option_map, Option, Some, None}
use Rattle.std.specs.List.{AllByRecursion, enumerate_from, cons_option}
use Rattle.lists.specs.Numbers.{numbers_below}
use Rattle.lists.proofs.Elements.{all-append, recursion_weaker}
use Rattle.job_sets.specs.Subset.{with_number}
use Rattle.job_model.specs.Table.{Table}
use Rattle.start_windows.specs.declared.StartWindow.{StartWindow}
use Rattle.sag_step.specs.State.{SystemState, state_window}
use Rattle.sag_step.specs.Next.{next}
use Rattle.sag_step.specs.Group.{Offer, offers, offers_of}
use Rattle.sag_graph.specs.declared.edge.Edge.{Edge}
use Rattle.sag_graph.specs.Levels.{Level, edges_into, level_at, next_level}
use Rattle.graph_memory.specs.Held.{EdgesAreSteps, IsStepBetween}
use Rattle.graph_memory.proofs.Placements.{ComesFrom, edges_come, grouped}

-- the offer is a step from one of the states
pub record IsOffer (table : Table) (states : List SystemState) (o : Offer) : Type 0 where
  pub source : SystemState
  pub there : slice_get states o.from ≡ Some source
  pub window : state_window table source o.job ≡ Some o.window
  pub next : o.next ≡ next table source o.job o.window

module _ (table : Table) (states : List SystemState) where
  from_state : (i : ℕ) (s : SystemState) (js : List ℕ) → slice_get states i ≡ Some s →
      AllByRecursion (IsOffer table states)
      (filter_map (λ j. option_map (λ window. record { from = i; job = j; window = window; next = next table s j window }) (state_window table s j)) js)
  from_state i s [] e = tt
  from_state i s (j ∷ js) e = by (state_window table s j) refl (from_state i s js e)
    where
      by : (o : Option StartWindow) → state_window table s j ≡ o →
          AllByRecursion (IsOffer table states) (filter_map (λ j. option_map (λ window. record { from = i; job = j; window = window; next = next table s j window }) (state_window table s j)) js) →
          AllByRecursion (IsOffer table states)
          (cons_option (option_map (λ window. record { from = i; job = j; window = window; next = next table s j window }) o)
          (filter_map (λ j. option_map (λ window. record { from = i; job = j; window = window; next = next table s j window }) (state_window table s j)) js))
      by None is rest = rest
      by (Some window) is rest = (record { source = s; there = e; window = is; next = refl }, rest)

  from_states : (k : ℕ) (xs : List SystemState) → ((i : ℕ) (s : SystemState) → slice_get xs i ≡ Some s → slice_get states (k + i) ≡ Some s) →
      AllByRecursion (IsOffer table states) (flat_map (offers_of table) (enumerate_from k xs))
  from_states k [] there = tt
  from_states k (x ∷ xs) there =
      all-append (IsOffer table states) (offers_of table (k, x)) (flat_map (offers_of table) (enumerate_from (k + 1) xs))
      (from_state k x (numbers_below (length table.jobs)) (subst (λ n. slice_get states n ≡ Some x) (plus_none k) (there 0 x refl)))
      (from_states (k + 1) xs (λ i s e. subst (λ n. slice_get states n ≡ Some s) (plus_one k i) (there (suc i) s e)))
    where
      plus_none : (k : ℕ) → k + 0 ≡ k
      plus_none k = omega arith

      plus_one : (k i : ℕ) → k + suc i ≡ k + 1 + i
      plus_one k i = omega arith

  pub offers-are : AllByRecursion (IsOffer table states) (offers table states)
  offers-are = from_states 0 states (λ i s e. subst (λ n. slice_get states n ≡ Some s) (none_plus i) e)
    where
      none_plus : (i : ℕ) → i ≡ 0 + i
      none_plus i = omega arith

-- ---- edges

module _ (table : Table) (before after : Level) where
  edge-step : (e : Edge) → ComesFrom (IsOffer table before.states) after.states e → IsStepBetween table before after e
  edge-step e c = record {
    source = c.is.source;
    target = c.target;
    from_there = subst (λ n. slice_get before.states n ≡ Some c.is.source) (sym c.from) c.is.there;
    to_there = c.there;
    window =
        subst (λ j. state_window table c.is.source j ≡ Some e.window) (sym c.job)
        (subst (λ w. state_window table c.is.source c.offer.job ≡ Some w) (sym c.window) c.is.window);
    adds = c.members ∙ ap (λ (s : SystemState). s.set.members) c.is.next ∙ ap (λ j. with_number j c.is.source.set.members) (sym c.job);
  }

pub edges_are_steps : EdgesAreSteps
unfolding level_at next_level
edges_are_steps table m k =
    let states = (level_at table m k).states in
    let all = offers table states in
    recursion_weaker (ComesFrom (IsOffer table states) (grouped [] all)) (IsStepBetween table (level_at table m k) (level_at table m (suc k)))
    (edge-step table (level_at table m k) (level_at table m (suc k))) (edges_into [] all)
    (edges_come (IsOffer table states) all [] (offers-are table states))
