-- What the grouping of offers keeps on one core: no gap comes into a state's interval.
use Rattle.std.proofs.Common.{◌≡◌, ℕ, zero, suc, ◌≤◌, ◌⊎◌, inl, inr, Bool, true, false, List, [], ◌∷◌, length, min, max, Some, refl, sym, ap, ◌∙◌, subst, arith, ⊎_elim}
use Rattle.std.specs.Prelude.{slice_get, ◌==◌, ◌&&◌, ◌||◌}
use Rattle.std.specs.List.{AllByRecursion, list_any}
use Rattle.std.specs.Cmp.Lexicographic.{pointwise}
use Rattle.std.proofs.lemmas.Bool.{and_parts, and_from, eq-eqb, or_cases, or_left, or_right, cases_Bool}
use Rattle.std.proofs.lemmas.Option.{none-some, same_Some}
use Rattle.job_sets.specs.Subset.{IsSubset}
use Rattle.sag_time.specs.Interval.{Interval, holds, touches}
use Rattle.lists.specs.Zipped.{zip_with}
use Rattle.sag_time.proofs.IntervalLaws.{touches-hull}
use Rattle.sag_step.specs.State.{SystemState, first_core}
use Rattle.sag_step.specs.Widen.{same_set, states_touch, state_hull, core_intervals}
use Rattle.sag_step.specs.Group.{Offer, placed, place_of}
use Rattle.sag_graph.specs.declared.edge.Edge.{Edge}
use Rattle.sag_graph.specs.Levels.{edges_into, edge_to}
use Rattle.graph_memory.proofs.Placements.{grouped, place-first, place-later, placed-first, placed-later}

-- A state of so many jobs, of which k have started, on one core without precedence: it is free at some moment from lo
-- to hi, and no ends are tracked.
pub record IsOneCore (size k : ℕ) (s : SystemState) : Type 0 where
  pub lo : ℕ
  pub hi : ℕ
  pub low : s.low ≡ lo ∷ []
  pub high : s.high ≡ hi ∷ []
  pub order : lo ≤ hi
  pub ends : s.ends ≡ []
  pub last : s.last.members ≡ []
  pub last_size : s.last.size ≡ size
  pub set : IsSubset s.set
  pub of_size : s.set.size ≡ size
  pub count : length s.set.members ≡ k

-- the core is possibly free no later than it certainly is
pub core_in_order : (size k : ℕ) (s : SystemState) → IsOneCore size k s → (first_core s).lo ≤ (first_core s).hi
core_in_order size k s one = rw (one.low, one.high) one.order

-- ---- two states

abbrev pair : ℕ → ℕ → Interval
pair lo hi = record { lo = lo; hi = hi }

module _ (size k : ℕ) (a b : SystemState) (one : IsOneCore size k a) (other : IsOneCore size k b) where
  intervals_touch : states_touch a b ≡ true → touches (pair one.lo one.hi) (pair other.lo other.hi) ≡ true
  intervals_touch h =
      let near : pointwise touches (core_intervals a) (core_intervals b) ≡ true = (and_parts (same_set a.set b.set) (pointwise touches (core_intervals a) (core_intervals b)) h).1 in
      let same : pointwise touches (zip_with pair (one.lo ∷ []) (one.hi ∷ [])) (zip_with pair (other.lo ∷ []) (other.hi ∷ [])) ≡ true = rw (one.low, one.high, other.low, other.high) at near in
      (and_parts (touches (pair one.lo one.hi) (pair other.lo other.hi)) true same).0

  -- the interval of the hull has no number outside both
  pub hull-holds : states_touch a b ≡ true → (t : ℕ) → holds (first_core (state_hull a b)) t ≡ true → (holds (first_core a) t || holds (first_core b) t) ≡ true
  hull-holds touch t = rw (one.low, one.high, other.low, other.high) (touches-hull (pair one.lo one.hi) (pair other.lo other.hi) t (intervals_touch touch))

  pub IsOneCore-hull : IsOneCore size k (state_hull a b)
  IsOneCore-hull = record {
    lo = min one.lo other.lo;
    hi = max one.hi other.hi;
    low = rw (one.low, other.low) refl;
    high = rw (one.high, other.high) refl;
    order = omega (arith, one.order, other.order);
    ends = rw one.ends refl;
    last = rw one.last refl;
    last_size = one.last_size;
    set = one.set;
    of_size = one.of_size;
    count = one.count;
  }

-- ---- one offer

module _ (size k : ℕ) where
  pub placed-fine : (xs : List SystemState) (o : SystemState) → AllByRecursion (IsOneCore size k) xs → IsOneCore size k o → AllByRecursion (IsOneCore size k) (placed xs o)
  placed-fine [] o all one = (one, tt)
  placed-fine (x ∷ xs) o all one = by (cases_Bool (states_touch x o)) (placed-fine xs o all.1 one)
    where
      by : (states_touch x o ≡ true) ⊎ (states_touch x o ≡ false) → AllByRecursion (IsOneCore size k) (placed xs o) → AllByRecursion (IsOneCore size k) (placed (x ∷ xs) o)
      by (inl touch) rest = subst (AllByRecursion (IsOneCore size k)) (sym (placed-first o x xs touch)) (IsOneCore-hull size k x o all.0 one, all.1)
      by (inr apart) rest = subst (AllByRecursion (IsOneCore size k)) (sym (placed-later o x xs apart)) (all.0, rest)

  -- what a state's interval holds was held by the state before, or comes from the offer that it took
  pub placed-holds : (xs : List SystemState) (o : SystemState) → AllByRecursion (IsOneCore size k) xs → IsOneCore size k o →
      (i t : ℕ) (s : SystemState) → slice_get (placed xs o) i ≡ Some s → holds (first_core s) t ≡ true →
      ((r : SystemState) × (slice_get xs i ≡ Some r) × (holds (first_core r) t ≡ true)) ⊎ ((place_of xs o ≡ i) × (holds (first_core o) t ≡ true))
  placed-holds [] o all one zero t s e h = inr (refl, subst (λ (y : SystemState). holds (first_core y) t ≡ true) (sym (same_Some o s e)) h)
  placed-holds [] o all one (suc i) t s e h = absurd (none-some s e)
  placed-holds (x ∷ xs) o all one zero t s e h = by (cases_Bool (states_touch x o))
    where
      by : (states_touch x o ≡ true) ⊎ (states_touch x o ≡ false) →
          ((r : SystemState) × (Some x ≡ Some r) × (holds (first_core r) t ≡ true)) ⊎ ((place_of (x ∷ xs) o ≡ 0) × (holds (first_core o) t ≡ true))
      by (inl touch) =
          let same : state_hull x o ≡ s = same_Some (state_hull x o) s (sym (ap (λ ys. slice_get ys 0) (placed-first o x xs touch)) ∙ e) in
          ⊎_elim
          (λ (in_x : holds (first_core x) t ≡ true). inl (x, refl, in_x))
          (λ (in_o : holds (first_core o) t ≡ true). inr (place-first o x xs touch, in_o))
          (or_cases (holds (first_core x) t) (holds (first_core o) t) (hull-holds size k x o all.0 one touch t (subst (λ (y : SystemState). holds (first_core y) t ≡ true) (sym same) h)))
      by (inr apart) = inl (s, sym (ap (λ ys. slice_get ys 0) (placed-later o x xs apart)) ∙ e, h)
  placed-holds (x ∷ xs) o all one (suc i) t s e h = by (cases_Bool (states_touch x o)) (λ later. placed-holds xs o all.1 one i t s later h)
    where
      by : (states_touch x o ≡ true) ⊎ (states_touch x o ≡ false) →
          (slice_get (placed xs o) i ≡ Some s → ((r : SystemState) × (slice_get xs i ≡ Some r) × (holds (first_core r) t ≡ true)) ⊎ ((place_of xs o ≡ i) × (holds (first_core o) t ≡ true))) →
          ((r : SystemState) × (slice_get xs i ≡ Some r) × (holds (first_core r) t ≡ true)) ⊎ ((place_of (x ∷ xs) o ≡ suc i) × (holds (first_core o) t ≡ true))
      by (inl touch) rest = inl (s, sym (ap (λ ys. slice_get ys (suc i)) (placed-first o x xs touch)) ∙ e, h)
      by (inr apart) rest =
          ⊎_elim
          (λ (there : (r : SystemState) × (slice_get xs i ≡ Some r) × (holds (first_core r) t ≡ true)). inl there)
          (λ (taken : (place_of xs o ≡ i) × (holds (first_core o) t ≡ true)). inr (place-later o x xs apart ∙ ap suc taken.0, taken.1))
          (rest (sym (ap (λ ys. slice_get ys (suc i)) (placed-later o x xs apart)) ∙ e))

-- ---- all offers

module _ (size k : ℕ) where
  pub grouped-fine : (os : List Offer) (xs : List SystemState) → AllByRecursion (λ o. IsOneCore size k o.next) os → AllByRecursion (IsOneCore size k) xs →
      AllByRecursion (IsOneCore size k) (grouped xs os)
  grouped-fine [] xs fine all = all
  grouped-fine (o ∷ os) xs fine all = grouped-fine os (placed xs o.next) fine.1 (placed-fine size k xs o.next all fine.0)

  -- What a state's interval holds was held by the state that was there, or comes from an edge into it.
  pub grouped-holds : (finish : Edge → Interval) (os : List Offer) (xs : List SystemState) → AllByRecursion (λ o. IsOneCore size k o.next) os → AllByRecursion (IsOneCore size k) xs →
      AllByRecursion (λ o. (to t : ℕ) → holds (first_core o.next) t ≡ true → holds (finish (edge_to o to)) t ≡ true) os →
      (i t : ℕ) (s : SystemState) → slice_get (grouped xs os) i ≡ Some s → holds (first_core s) t ≡ true →
      ((r : SystemState) × (slice_get xs i ≡ Some r) × (holds (first_core r) t ≡ true)) ⊎ (list_any (λ e. (e.to == i) && holds (finish e) t) (edges_into xs os) ≡ true)
  grouped-holds finish [] xs fine all same i t s e h = inl (s, e, h)
  grouped-holds finish (o ∷ os) xs fine all same i t s e h =
      let test : Edge → Bool = λ e. (e.to == i) && holds (finish e) t in
      let here = edge_to o (place_of xs o.next) in
      let rest = list_any test (edges_into (placed xs o.next) os) in
      ⊎_elim
      (λ (there : (r : SystemState) × (slice_get (placed xs o.next) i ≡ Some r) × (holds (first_core r) t ≡ true)). ⊎_elim
      (λ (before : (r : SystemState) × (slice_get xs i ≡ Some r) × (holds (first_core r) t ≡ true)). inl before)
      (λ (taken : (place_of xs o.next ≡ i) × (holds (first_core o.next) t ≡ true)).
      inr (or_left (test here) rest (and_from (place_of xs o.next == i) (holds (finish here) t) (eq-eqb (place_of xs o.next) i taken.0) (same.0 (place_of xs o.next) t taken.1))))
      (placed-holds size k xs o.next all fine.0 i t there.0 there.1 there.2))
      (λ (later : rest ≡ true). inr (or_right (test here) rest later))
      (grouped-holds finish os (placed xs o.next) fine.1 (placed-fine size k xs o.next all fine.0) same.1 i t s e h)
