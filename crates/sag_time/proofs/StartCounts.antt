-- How many times of a sorted list are up to a number, or below it, after a start.
use Rattle.std.proofs.Common.{◌≡◌, ℕ, ◌+◌, ◌-◌, ◌<◌, ◌≤◌, Bool, true, false, cond, List, [], ◌∷◌, map, drop, arith, ⊎_elim, max}
use Rattle.std.specs.Prelude.{nat_le, nat_lt}
use Rattle.std.specs.List.{count_by, list_all}
use Rattle.std.proofs.lemmas.Bool.{and_parts, ltb-true, leb-true, le-leb, lt-ltb, cases_lt}
use Rattle.sag_time.specs.Sorted.{is_sorted, sorted_with, after_start}
use Rattle.sag_time.proofs.Counts.{one_if, count_by-cons, one_if-le, one_if-true, one_if-mono}
use Rattle.sag_time.proofs.SortedCounts.{upto, below, upto-none}

-- the number that is put in order is counted too
pub count_by-sorted_with : (p : ℕ → Bool) (x : ℕ) (ys : List ℕ) → count_by p (sorted_with x ys) ≡ one_if (p x) + count_by p ys
count_by-sorted_with p x [] = count_by-cons p x []
count_by-sorted_with p x (y ∷ ys) =
    let cons : count_by p (y ∷ ys) ≡ one_if (p y) + count_by p ys = count_by-cons p y ys in
    elim (nat_le x y) as (λ b. count_by p (cond b (x ∷ y ∷ ys) (y ∷ sorted_with x ys)) ≡ one_if (p x) + count_by p (y ∷ ys)) [
      | true ↦ count_by-cons p x (y ∷ ys)
      | false ↦
          let rest : count_by p (sorted_with x ys) ≡ one_if (p x) + count_by p ys = count_by-sorted_with p x ys in
          let here : count_by p (y ∷ sorted_with x ys) ≡ one_if (p y) + count_by p (sorted_with x ys) = count_by-cons p y (sorted_with x ys) in
          omega (arith, cons, rest, here)
    ]

-- raising leaves no more up to v, and as many below v where v is above the floor
upto-raised : (floor v : ℕ) (xs : List ℕ) → upto v (map (max floor) xs) ≤ upto v xs
upto-raised floor v [] = omega arith
upto-raised floor v (x ∷ xs) =
    let rest : upto v (map (max floor) xs) ≤ upto v xs = upto-raised floor v xs in
    let left : upto v (max floor x ∷ map (max floor) xs) ≡ one_if (nat_le (max floor x) v) + upto v (map (max floor) xs) = count_by-cons (λ t. nat_le t v) (max floor x) (map (max floor) xs) in
    let right : upto v (x ∷ xs) ≡ one_if (nat_le x v) + upto v xs = count_by-cons (λ t. nat_le t v) x xs in
    let one : one_if (nat_le (max floor x) v) ≤ one_if (nat_le x v) =
    one_if-mono (nat_le (max floor x) v) (nat_le x v) (λ e. let h : max floor x ≤ v = leb-true (max floor x) v e in le-leb x v (omega (arith, h))) in
    omega (arith, rest, left, right, one)

below-raised : (floor v : ℕ) (xs : List ℕ) → floor < v → below v xs ≤ below v (map (max floor) xs)
below-raised floor v [] h = omega arith
below-raised floor v (x ∷ xs) h =
    let rest : below v xs ≤ below v (map (max floor) xs) = below-raised floor v xs h in
    let left : below v (max floor x ∷ map (max floor) xs) ≡ one_if (nat_lt (max floor x) v) + below v (map (max floor) xs) = count_by-cons (λ t. nat_lt t v) (max floor x) (map (max floor) xs) in
    let right : below v (x ∷ xs) ≡ one_if (nat_lt x v) + below v xs = count_by-cons (λ t. nat_lt t v) x xs in
    let one : one_if (nat_lt x v) ≤ one_if (nat_lt (max floor x) v) =
    one_if-mono (nat_lt x v) (nat_lt (max floor x) v) (λ e. let k : x < v = ltb-true x v e in lt-ltb (max floor x) v (omega (arith, h, k))) in
    omega (arith, rest, left, right, one)

-- without the first of a sorted list, one fewer is up to v, where any is
upto-rest : (v : ℕ) (xs : List ℕ) → is_sorted xs ≡ true → upto v (drop 1 xs) ≤ upto v xs - 1
upto-rest v [] sorted = omega arith
upto-rest v (y ∷ ys) sorted =
    let parts = and_parts (list_all (nat_le y) ys) (is_sorted ys) sorted in
    let cons : upto v (y ∷ ys) ≡ one_if (nat_le y v) + upto v ys = count_by-cons (λ t. nat_le t v) y ys in
    ⊎_elim
    (λ (late : v < y). omega (arith, upto-none v y ys late parts.0))
    (λ (early : y ≤ v).
    let one : one_if (nat_le y v) ≡ 1 = one_if-true (nat_le y v) (le-leb y v early) in
    omega (arith, cons, one))
    (cases_lt v y)

below-rest : (v : ℕ) (xs : List ℕ) → below v xs ≤ below v (drop 1 xs) + 1
below-rest v [] = omega arith
below-rest v (y ∷ ys) =
    let cons : below v (y ∷ ys) ≡ one_if (nat_lt y v) + below v ys = count_by-cons (λ t. nat_lt t v) y ys in
    omega (arith, cons, one_if-le (nat_lt y v))

-- of those up to v one is taken, and the end may come to them
pub upto-after_start : (floor end v : ℕ) (xs : List ℕ) → is_sorted xs ≡ true → upto v (after_start floor end xs) ≤ one_if (nat_le end v) + (upto v xs - 1)
upto-after_start floor end v xs sorted =
    omega (arith, count_by-sorted_with (λ t. nat_le t v) end (map (max floor) (drop 1 xs)), upto-raised floor v (drop 1 xs), upto-rest v xs sorted)

-- of those below v, a number above the floor, one is taken, and the end may come to them
pub below-after_start : (floor end v : ℕ) (xs : List ℕ) → floor < v → one_if (nat_lt end v) + below v xs ≤ below v (after_start floor end xs) + 1
below-after_start floor end v xs h =
    omega (arith, count_by-sorted_with (λ t. nat_lt t v) end (map (max floor) (drop 1 xs)), below-raised floor v (drop 1 xs) h, below-rest v xs)
