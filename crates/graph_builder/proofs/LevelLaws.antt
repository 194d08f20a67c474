-- The states of the levels are fit.
use Rattle.std.proofs.Common.{◌≡◌, ℕ, suc, zero, Bool, true, false, List, [], ◌∷◌, ◌++◌, ◌+◌, ◌≤◌, fold, length, map, refl, subst, arith}
use Rattle.std.specs.Prelude.{◌&&◌, Option, Some, None}
use Rattle.std.specs.List.{AllByRecursion, cons_option, enumerate_from, filter_map, flat_map}
use Rattle.std.specs.Option.{option_map}
use Rattle.job_model.specs.declared.limits.TheConstants.{MOST_ARRIVAL, MOST_COST}
use Rattle.lists.specs.Numbers.{numbers_below}
use Rattle.job_model.specs.Table.{Table, IsTable}
use Rattle.start_windows.specs.declared.StartWindow.{StartWindow}
use Rattle.sag_step.specs.State.{SystemState, root, state_window}
use Rattle.sag_step.specs.Next.{next}
use Rattle.sag_step.specs.Shape.{IsState}
use Rattle.sag_step.specs.Widen.{same_set, state_hull, states_touch}
use Rattle.sag_step.specs.Group.{Offer, offers, offers_of, placed}
use Rattle.sag_step.proofs.Widening.{IsState-hull, IsUpTo-hull}
use Rattle.sag_step.proofs.NextStates.{next_is_state, next_is_up_to}
use Rattle.sag_graph.specs.Levels.{level_at, next_level}
use Rattle.graph_builder.specs.Fit.{most_at}
use Rattle.graph_builder.specs.Laws.{IsStateUpTo}
use Rattle.graph_builder.proofs.FitLemmas.{arrival-most}
use Rattle.graph_builder.proofs.StandLemmas.{zeros-up}

first-true : (a b : Bool) → (a && b) ≡ true → a ≡ true
first-true true b e = refl
first-true false b e = absurd (cc)

all-append : {A : Type 0} (P : A → Type 0) (xs ys : List A) → AllByRecursion P xs → AllByRecursion P ys → AllByRecursion P (xs ++ ys)
all-append P [] ys h k = k
all-append P (x ∷ xs) ys h k = (h.0, all-append P xs ys h.1 k)

module _ (table : Table) (m : ℕ) where
  hull-fit : (limit : ℕ) (s o : SystemState) → IsStateUpTo table m limit s → IsStateUpTo table m limit o → states_touch s o ≡ true → IsStateUpTo table m limit (state_hull s o)
  hull-fit limit s o one other touch = record {
    is_state = IsState-hull table m s o one.is_state other.is_state (first-true (same_set s.set o.set) _ touch);
    in_limit = IsUpTo-hull limit s o one.in_limit other.in_limit;
  }

  placed-fit : (limit : ℕ) (states : List SystemState) (o : SystemState) → AllByRecursion (IsStateUpTo table m limit) states → IsStateUpTo table m limit o →
      AllByRecursion (IsStateUpTo table m limit) (placed states o)
  placed-fit limit [] o h own = (own, tt)
  placed-fit limit (s ∷ states) o h own = by (states_touch s o) refl (placed-fit limit states o h.1 own)
    where
      by : (b : Bool) → states_touch s o ≡ b → AllByRecursion (IsStateUpTo table m limit) (placed states o) → AllByRecursion (IsStateUpTo table m limit) (placed (s ∷ states) o)
      by true e rest = rw e (hull-fit limit s o h.0 own e, h.1)
      by false e rest = rw e (h.0, rest)

  grouped-fit : (limit : ℕ) (os : List Offer) (states : List SystemState) → AllByRecursion (IsStateUpTo table m limit) states → AllByRecursion (λ o. IsStateUpTo table m limit o.next) os →
      AllByRecursion (IsStateUpTo table m limit) (fold placed states (map (λ o. o.next) os))
  grouped-fit limit [] states h k = h
  grouped-fit limit (o ∷ os) states h k = grouped-fit limit os (placed states o.next) (placed-fit limit states o.next h k.0) k.1

  module _ (is_table : IsTable table) (limit : ℕ) (arrivals : MOST_ARRIVAL ≤ limit) where
    own-fit : (from : ℕ) (s : SystemState) → IsStateUpTo table m limit s → (js : List ℕ) →
        AllByRecursion (λ (o : Offer). IsStateUpTo table m (limit + MOST_COST) o.next)
        (filter_map (λ j. option_map (λ window. record { from = from; job = j; window = window; next = next table s j window }) (state_window table s j)) js)
    own-fit from s fit [] = tt
    own-fit from s fit (j ∷ js) = by (state_window table s j) refl (own-fit from s fit js)
      where
        by : (o : Option StartWindow) → state_window table s j ≡ o →
            AllByRecursion (λ (o : Offer). IsStateUpTo table m (limit + MOST_COST) o.next)
            (filter_map (λ j. option_map (λ window. record { from = from; job = j; window = window; next = next table s j window }) (state_window table s j)) js) →
            AllByRecursion (λ (o : Offer). IsStateUpTo table m (limit + MOST_COST) o.next)
            (cons_option (option_map (λ window. record { from = from; job = j; window = window; next = next table s j window }) o)
            (filter_map (λ j. option_map (λ window. record { from = from; job = j; window = window; next = next table s j window }) (state_window table s j)) js))
        by None e rest = rest
        by (Some window) e rest = (
          record {
            is_state = next_is_state table m s j window is_table fit.is_state e;
            in_limit = next_is_up_to table s j window limit is_table fit.in_limit arrivals e;
          },
          rest,
        )

    offers-fit : (i : ℕ) (level : List SystemState) → AllByRecursion (IsStateUpTo table m limit) level →
        AllByRecursion (λ (o : Offer). IsStateUpTo table m (limit + MOST_COST) o.next) (flat_map (offers_of table) (enumerate_from i level))
    offers-fit i [] h = tt
    offers-fit i (s ∷ level) h =
        all-append (λ (o : Offer). IsStateUpTo table m (limit + MOST_COST) o.next) (offers_of table (i, s)) (flat_map (offers_of table) (enumerate_from (i + 1) level))
        (own-fit i s h.0 (numbers_below (length table.jobs))) (offers-fit (i + 1) level h.1)

pub levels-fit : (table : Table) (m k : ℕ) → IsTable table → IsState table m (root table m) → AllByRecursion (IsStateUpTo table m (most_at k)) (level_at table m k).states
unfolding level_at next_level
levels-fit table m zero is_table is = (record { is_state = is; in_limit = record { low = zeros-up m (most_at 0); high = zeros-up m (most_at 0); ends = refl } }, tt)
levels-fit table m (suc k) is_table is =
    let before = (level_at table m k).states in
    let more : most_at k + MOST_COST ≡ most_at (suc k) = omega arith in
    subst (λ n. AllByRecursion (IsStateUpTo table m n) (fold placed [] (map (λ (o : Offer). o.next) (offers table before)))) more
    (grouped-fit table m (most_at k + MOST_COST) (offers table before) [] tt (offers-fit table m is_table (most_at k) (arrival-most k) 0 before (levels-fit table m k is_table is)))
