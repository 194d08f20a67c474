-- How many numbers of a sorted list are up to a number, or below it.
--     upto v xs, below v xs        how many are at most v, and below v
--     upto-place, place-upto       more than x are up to v exactly where the one at place x is
--     below-place, place-below     at most x are below v exactly where the one at place x is not
use Rattle.std.proofs.Common.{◌≡◌, ℕ, zero, suc, ◌+◌, ◌<◌, ◌≤◌, true, List, [], ◌∷◌, length, refl, arith, ⊎_elim, get_or}
use Rattle.std.specs.Prelude.{nat_le, nat_lt}
use Rattle.std.specs.List.{count_by, list_all}
use Rattle.std.proofs.lemmas.Bool.{and_parts, leb-true, le-leb, lt-leb, lt-ltb, le-ltb, cases_lt}
use Rattle.sag_time.specs.Sorted.{is_sorted}
use Rattle.sag_time.proofs.Counts.{one_if, count_by-cons, one_if-le, one_if-true, one_if-false}
use Rattle.sag_time.proofs.SortedLists.{list_all-place}

-- how many are at most v, and below v
abbrev pub upto : ℕ → List ℕ → ℕ
upto v xs = count_by (λ t. nat_le t v) xs

abbrev pub below : ℕ → List ℕ → ℕ
below v xs = count_by (λ t. nat_lt t v) xs

pub upto-none : (v y : ℕ) (ys : List ℕ) → v < y → list_all (nat_le y) ys ≡ true → upto v ys ≡ 0
upto-none v y [] h all = refl
upto-none v y (x ∷ xs) h all =
    let parts = and_parts (nat_le y x) (list_all (nat_le y) xs) all in
    let above : y ≤ x = leb-true y x parts.0 in
    let rest : upto v xs ≡ 0 = upto-none v y xs h parts.1 in
    let cons : upto v (x ∷ xs) ≡ one_if (nat_le x v) + upto v xs = count_by-cons (λ t. nat_le t v) x xs in
    let none : one_if (nat_le x v) ≡ 0 = one_if-false (nat_le x v) (lt-leb x v (omega (arith, h, above))) in
    omega (arith, rest, cons, none)

pub below-none : (v y : ℕ) (ys : List ℕ) → v ≤ y → list_all (nat_le y) ys ≡ true → below v ys ≡ 0
below-none v y [] h all = refl
below-none v y (x ∷ xs) h all =
    let parts = and_parts (nat_le y x) (list_all (nat_le y) xs) all in
    let above : y ≤ x = leb-true y x parts.0 in
    let rest : below v xs ≡ 0 = below-none v y xs h parts.1 in
    let cons : below v (x ∷ xs) ≡ one_if (nat_lt x v) + below v xs = count_by-cons (λ t. nat_lt t v) x xs in
    let none : one_if (nat_lt x v) ≡ 0 = one_if-false (nat_lt x v) (le-ltb x v (omega (arith, h, above))) in
    omega (arith, rest, cons, none)

-- the number at place x, and the x before it, are at most itself
pub upto-place : (xs : List ℕ) (x : ℕ) → is_sorted xs ≡ true → x < length xs → x < upto (get_or xs x 0) xs
upto-place [] x sorted h = absurd (omega (arith, h))
upto-place (y ∷ ys) zero sorted h =
    let cons : upto y (y ∷ ys) ≡ one_if (nat_le y y) + upto y ys = count_by-cons (λ t. nat_le t y) y ys in
    let one : one_if (nat_le y y) ≡ 1 = one_if-true (nat_le y y) (le-leb y y (omega arith)) in
    omega (arith, cons, one)
upto-place (y ∷ ys) (suc x) sorted h =
    let parts = and_parts (list_all (nat_le y) ys) (is_sorted ys) sorted in
    let v = get_or ys x 0 in
    let first : y ≤ v = list_all-place y ys x (omega (arith, h)) parts.0 in
    let rest : x < upto v ys = upto-place ys x parts.1 (omega (arith, h)) in
    let cons : upto v (y ∷ ys) ≡ one_if (nat_le y v) + upto v ys = count_by-cons (λ t. nat_le t v) y ys in
    let one : one_if (nat_le y v) ≡ 1 = one_if-true (nat_le y v) (le-leb y v first) in
    omega (arith, rest, cons, one)

-- where more than x are at most v, the one at place x is
pub place-upto : (v : ℕ) (xs : List ℕ) (x : ℕ) → is_sorted xs ≡ true → x < upto v xs → get_or xs x 0 ≤ v
place-upto v [] x sorted h = absurd (omega (arith, h))
place-upto v (y ∷ ys) x sorted h =
    let parts = and_parts (list_all (nat_le y) ys) (is_sorted ys) sorted in
    let cons : upto v (y ∷ ys) ≡ one_if (nat_le y v) + upto v ys = count_by-cons (λ t. nat_le t v) y ys in
    ⊎_elim
    (λ (late : v < y).
    let none : upto v ys ≡ 0 = upto-none v y ys late parts.0 in
    let not_first : one_if (nat_le y v) ≡ 0 = one_if-false (nat_le y v) (lt-leb y v late) in
    absurd (omega (arith, h, cons, none, not_first)))
    (λ (early : y ≤ v). at x h cons early (λ k. place-upto v ys k parts.1))
    (cases_lt v y)
  where
    at : (x : ℕ) → x < upto v (y ∷ ys) → upto v (y ∷ ys) ≡ one_if (nat_le y v) + upto v ys → y ≤ v → ((k : ℕ) → k < upto v ys → get_or ys k 0 ≤ v) → get_or (y ∷ ys) x 0 ≤ v
    at zero h cons early rest = early
    at (suc x) h cons early rest = rest x (omega (arith, h, cons, one_if-le (nat_le y v)))

-- at most x are below the number at place x
pub below-place : (xs : List ℕ) (x : ℕ) → is_sorted xs ≡ true → x < length xs → below (get_or xs x 0) xs ≤ x
below-place [] x sorted h = absurd (omega (arith, h))
below-place (y ∷ ys) zero sorted h =
    let parts = and_parts (list_all (nat_le y) ys) (is_sorted ys) sorted in
    let cons : below y (y ∷ ys) ≡ one_if (nat_lt y y) + below y ys = count_by-cons (λ t. nat_lt t y) y ys in
    let none : below y ys ≡ 0 = below-none y y ys (omega arith) parts.0 in
    let not_first : one_if (nat_lt y y) ≡ 0 = one_if-false (nat_lt y y) (le-ltb y y (omega arith)) in
    omega (arith, cons, none, not_first)
below-place (y ∷ ys) (suc x) sorted h =
    let parts = and_parts (list_all (nat_le y) ys) (is_sorted ys) sorted in
    let v = get_or ys x 0 in
    let rest : below v ys ≤ x = below-place ys x parts.1 (omega (arith, h)) in
    let cons : below v (y ∷ ys) ≡ one_if (nat_lt y v) + below v ys = count_by-cons (λ t. nat_lt t v) y ys in
    omega (arith, rest, cons, one_if-le (nat_lt y v))

-- where at most x are below v, the one at place x is not
pub place-below : (v : ℕ) (xs : List ℕ) (x : ℕ) → is_sorted xs ≡ true → x < length xs → below v xs ≤ x → v ≤ get_or xs x 0
place-below v [] x sorted h few = absurd (omega (arith, h))
place-below v (y ∷ ys) x sorted h few =
    let parts = and_parts (list_all (nat_le y) ys) (is_sorted ys) sorted in
    let cons : below v (y ∷ ys) ≡ one_if (nat_lt y v) + below v ys = count_by-cons (λ t. nat_lt t v) y ys in
    ⊎_elim
    (λ (early : y < v).
    let one : one_if (nat_lt y v) ≡ 1 = one_if-true (nat_lt y v) (lt-ltb y v early) in
    after x h (omega (arith, few, cons, one)) (λ k. place-below v ys k parts.1))
    (λ (late : v ≤ y). at x h late parts.0)
    (cases_lt y v)
  where
    at : (x : ℕ) → x < length (y ∷ ys) → v ≤ y → list_all (nat_le y) ys ≡ true → v ≤ get_or (y ∷ ys) x 0
    at zero h late all = late
    at (suc x) h late all = omega (arith, late, list_all-place y ys x (omega (arith, h)) all)

    after : (x : ℕ) → x < length (y ∷ ys) → 1 + below v ys ≤ x → ((k : ℕ) → k < length ys → below v ys ≤ k → v ≤ get_or ys k 0) → v ≤ get_or (y ∷ ys) x 0
    after zero h few rest = absurd (omega (arith, few))
    after (suc x) h few rest = rest x (omega (arith, h)) (omega (arith, few))
