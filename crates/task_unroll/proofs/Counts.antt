-- How many releases come before a horizon.
use Rattle.std.proofs.Common.{◌≡◌, ℕ, zero, suc, ◌+◌, ◌-◌, ◌*◌, ◌/◌, ◌%◌, ◌<◌, ◌≤◌, ◌⊎◌, inl, inr, Bool, true, false, cond, List, ◌∷◌, get_or, length, min, ap, subst, ◌∙◌, arith}
use Rattle.std.specs.Prelude.{All, filter, nat_lt}
use Rattle.std.specs.List.{range_with_len}
use Rattle.std.proofs.Math.Nat.{mul-le-mul_left, mul-le-mul_right}
use Rattle.std.proofs.lemmas.Bool.{cases_lt, le-ltb, lt-ltb}
use Rattle.std.proofs.lemmas.Bool.Decides.{nat_tests}
use Rattle.std.proofs.lemmas.List.Elements.{filter_passes}
use Rattle.std.proofs.lemmas.List.FromFn.{get_or-range_with_len, length-range_with_len}
use Rattle.lists.specs.Numbers.{numbers_below}
use Rattle.task_unroll.specs.declared.task.Task.{Task}
use Rattle.task_unroll.specs.Tasks.{IsTask}
use Rattle.task_unroll.specs.Unrolled.{release_at, releases_of}

-- those of a range that are below a bound
below_are : (p : ℕ → Bool) (c : ℕ) → ((k : ℕ) → k < c → p k ≡ true) → ((k : ℕ) → c ≤ k → p k ≡ false) → (n a : ℕ) → filter p (range_with_len a n) ≡ range_with_len a (min n (c - a))
below_are p c holds fails zero a = let none : zero ≡ min zero (c - a) = omega arith in ap (range_with_len a) none
below_are p c holds fails (suc n) a = by (below_are p c holds fails n (a + 1)) (cases_lt a c)
  where
    by : filter p (range_with_len (a + 1) n) ≡ range_with_len (a + 1) (min n (c - (a + 1))) → (a < c) ⊎ (c ≤ a) → filter p (range_with_len a (suc n)) ≡ range_with_len a (min (suc n) (c - a))
    by rest (inl less) =
        let count : suc (min n (c - (a + 1))) ≡ min (suc n) (c - a) = omega (arith, less) in
        ap (λ b. cond b (a ∷ filter p (range_with_len (a + 1) n)) (filter p (range_with_len (a + 1) n))) (holds a less)
        ∙ ap (λ (l : List ℕ). a ∷ l) rest ∙ ap (range_with_len a) count
    by rest (inr more) =
        let none : min n (c - (a + 1)) ≡ 0 = omega (arith, more) in
        let none_too : 0 ≡ min (suc n) (c - a) = omega (arith, more) in
        ap (λ b. cond b (a ∷ filter p (range_with_len (a + 1) n)) (filter p (range_with_len (a + 1) n))) (fails a more)
        ∙ rest ∙ ap (range_with_len (a + 1)) none ∙ ap (range_with_len a) none_too

below_from : (m n : ℕ) → nat_lt m n ≡ true → m < n
below_from m n e = grind (arith, nat_tests)

-- a release that is counted comes before the horizon
pub counted_before : (a : Task) (horizon c k : ℕ) → releases_of a horizon ≡ numbers_below c → k < c → release_at a k < horizon
counted_before a horizon c k are less =
    let passes = subst (λ l. All (λ n. nat_lt (release_at a n) horizon ≡ true) l) are (filter_passes (λ n. nat_lt (release_at a n) horizon) (numbers_below horizon)) in
    let is : get_or (numbers_below c) k k ≡ k = get_or-range_with_len 0 c k k less ∙ omega arith in
    below_from (release_at a k) horizon (subst (λ n. nat_lt (release_at a n) horizon ≡ true) is (passes k k (omega (arith, length-range_with_len 0 c, less))))

-- as many as are counted
pub length-releases : (a : Task) (horizon c : ℕ) → releases_of a horizon ≡ numbers_below c → length (releases_of a horizon) ≡ c
length-releases a horizon c are = ap length are ∙ length-range_with_len 0 c

module _ (a : Task) (horizon : ℕ) (task : IsTask a) where
  -- a release comes before the horizon exactly up to the last one
  before : (k : ℕ) → a.offset < horizon → k ≤ (horizon - a.offset - 1) / a.period → release_at a k < horizon
  before k some up =
      let q = (horizon - a.offset - 1) / a.period in
      let h : 0 < a.period = omega (arith, task.has_period) in
      let parts : a.period * q + (horizon - a.offset - 1) % a.period ≡ horizon - a.offset - 1 = omega (arith, h) in
      omega (arith, mul-le-mul_right a.period up, parts, some)

  after : (k : ℕ) → a.offset < horizon → (horizon - a.offset - 1) / a.period < k → horizon ≤ release_at a k
  after k some more =
      let q = (horizon - a.offset - 1) / a.period in
      let h : 0 < a.period = omega (arith, task.has_period) in
      let step : q + 1 ≤ k = omega (arith, more) in
      omega (arith, mul-le-mul_right a.period step, h, some)

  pub last_before : a.offset < horizon → release_at a ((horizon - a.offset - 1) / a.period) < horizon
  last_before some = before ((horizon - a.offset - 1) / a.period) some (omega arith)

  pub up_to_last : (k : ℕ) → a.offset < horizon → release_at a k < horizon → k ≤ (horizon - a.offset - 1) / a.period
  up_to_last k some less = by (cases_lt ((horizon - a.offset - 1) / a.period) k)
    where
      by : ((horizon - a.offset - 1) / a.period < k) ⊎ (k ≤ (horizon - a.offset - 1) / a.period) → k ≤ (horizon - a.offset - 1) / a.period
      by (inl more) = absurd (omega (arith, after k some more, less))
      by (inr up) = up

  none_before : horizon ≤ a.offset → (k : ℕ) → horizon ≤ release_at a k
  none_before early k = omega (arith, early)

  pub releases_none : horizon ≤ a.offset → releases_of a horizon ≡ numbers_below 0
  releases_none early =
      let count : min horizon (0 - 0) ≡ 0 = omega arith in
      below_are (λ k. nat_lt (release_at a k) horizon) 0 (λ k less. absurd (omega (arith, less))) (λ k up. le-ltb (release_at a k) horizon (none_before early k)) horizon 0
      ∙ ap numbers_below count

  -- the last release is not counted past the horizon
  pub last_within : a.offset < horizon → (horizon - a.offset - 1) / a.period + 1 ≤ horizon
  last_within some =
      let q = (horizon - a.offset - 1) / a.period in
      omega (arith, last_before some, mul-one q, task.has_period)
    where
      mul-one : (q : ℕ) → q ≤ q * a.period
      mul-one q = omega (arith, mul-le-mul_left q task.has_period)

  pub releases_some : a.offset < horizon → releases_of a horizon ≡ numbers_below ((horizon - a.offset - 1) / a.period + 1)
  releases_some some =
      let q = (horizon - a.offset - 1) / a.period in
      let count : min horizon (q + 1 - 0) ≡ q + 1 = omega (arith, last_within some) in
      below_are (λ k. nat_lt (release_at a k) horizon) (q + 1) (λ k less. lt-ltb (release_at a k) horizon (before k some (omega (arith, less))))
      (λ k up. le-ltb (release_at a k) horizon (after k some (omega (arith, up)))) horizon 0
      ∙ ap numbers_below count

  -- the releases are numbered from 0 on
  pub releases_counted : (c : ℕ) × (releases_of a horizon ≡ numbers_below c)
  releases_counted = by (cases_lt a.offset horizon)
    where
      by : (a.offset < horizon) ⊎ (horizon ≤ a.offset) → (c : ℕ) × (releases_of a horizon ≡ numbers_below c)
      by (inl some) = ((horizon - a.offset - 1) / a.period + 1, releases_some some)
      by (inr early) = (0, releases_none early)
