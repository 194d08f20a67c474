-- Sorted lists: what keeps the order, and what the order gives.
use Rattle.std.proofs.Common.{◌≡◌, ℕ, zero, suc, ◌+◌, ◌<◌, ◌≤◌, Bool, true, false, cond, List, [], ◌∷◌, length, map, drop, refl, ap, sym, ◌∙◌, arith, min, max, get_or, replicate, Some}
use Rattle.std.specs.Prelude.{nat_le}
use Rattle.std.specs.List.{list_all}
use Rattle.std.specs.Cmp.Lexicographic.{pointwise}
use Rattle.std.specs.List.{IsAllAdjacentAnswer}
use Rattle.std.specs.List.Sorted.{IsNonDecreasing}
use Rattle.std.specs.Bool.{MatchBool}
use Rattle.std.specs.Ordering.{is_some_and, is_le, nat_cmp}
use Rattle.std.proofs.lemmas.Bool.{and_parts, and_from, leb-true, leb-false, le-leb, false≢true, false_from_ne_true}
use Rattle.std.proofs.lemmas.List.Sorted.{non_decreasing_from_is_sorted}
use Rattle.sag_time.specs.Sorted.{is_sorted, sorted_with, after_start}
use Rattle.sag_time.specs.Laws.{StartKeepsOrder, StartKeepsBelow}

-- ---- the first number, and the others

list_all-from : (x y : ℕ) (ys : List ℕ) → x ≤ y → list_all (nat_le y) ys ≡ true → list_all (nat_le x) ys ≡ true
list_all-from x y [] h all = refl
list_all-from x y (z ∷ zs) h all =
    let parts = and_parts (nat_le y z) (list_all (nat_le y) zs) all in
    and_from (nat_le x z) (list_all (nat_le x) zs) (le-leb x z (omega (arith, h, leb-true y z parts.0))) (list_all-from x y zs h parts.1)

pub list_all-place : (y : ℕ) (ys : List ℕ) (x : ℕ) → x < length ys → list_all (nat_le y) ys ≡ true → y ≤ get_or ys x 0
list_all-place y [] x h all = absurd (omega (arith, h))
list_all-place y (z ∷ zs) zero h all = leb-true y z (and_parts (nat_le y z) (list_all (nat_le y) zs) all).0
list_all-place y (z ∷ zs) (suc x) h all = list_all-place y zs x (omega (arith, h)) (and_parts (nat_le y z) (list_all (nat_le y) zs) all).1

pub is_sorted-drop_one : (xs : List ℕ) → is_sorted xs ≡ true → is_sorted (drop 1 xs) ≡ true
is_sorted-drop_one [] sorted = refl
is_sorted-drop_one (x ∷ xs) sorted = (and_parts (list_all (nat_le x) xs) (is_sorted xs) sorted).1

-- ---- a number put in order

sorted_with-first : (x : ℕ) (ys : List ℕ) → list_all (nat_le x) ys ≡ true → sorted_with x ys ≡ x ∷ ys
sorted_with-first x [] all = refl
sorted_with-first x (y ∷ ys) all = ap (λ b. cond b (x ∷ y ∷ ys) (y ∷ sorted_with x ys)) (and_parts (nat_le x y) (list_all (nat_le x) ys) all).0

-- the lesser of x and the first comes first, and the greater is put in order among the others
pub sorted_with-carry : (x y : ℕ) (ys : List ℕ) → is_sorted (y ∷ ys) ≡ true → sorted_with x (y ∷ ys) ≡ min y x ∷ sorted_with (max y x) ys
sorted_with-carry x y ys sorted = at (nat_le x y) refl
  where
    at : (b : Bool) → nat_le x y ≡ b → cond b (x ∷ y ∷ ys) (y ∷ sorted_with x ys) ≡ min y x ∷ sorted_with (max y x) ys
    at true e =
        let early : x ≤ y = leb-true x y e in
        let first : min y x ≡ x = omega (arith, early) in
        let second : max y x ≡ y = omega (arith, early) in
        ap (λ zs. x ∷ zs) (sym (sorted_with-first y ys (and_parts (list_all (nat_le y) ys) (is_sorted ys) sorted).0))
        ∙ (λ i. sym first i ∷ sorted_with (sym second i) ys)
    at false e =
        let late : y < x = leb-false x y e in
        let first : min y x ≡ y = omega (arith, late) in
        let second : max y x ≡ x = omega (arith, late) in
        λ i. sym first i ∷ sorted_with (sym second i) ys

length-sorted_with : (x : ℕ) (ys : List ℕ) → length (sorted_with x ys) ≡ length ys + 1
length-sorted_with x [] = refl
length-sorted_with x (y ∷ ys) =
    elim (nat_le x y) as (λ b. length (cond b (x ∷ y ∷ ys) (y ∷ sorted_with x ys)) ≡ length (y ∷ ys) + 1) [
      | true ↦ omega arith
      | false ↦ omega (arith, length-sorted_with x ys)
    ]

pub list_all-sorted_with : (p : ℕ → Bool) (x : ℕ) (ys : List ℕ) → p x ≡ true → list_all p ys ≡ true → list_all p (sorted_with x ys) ≡ true
list_all-sorted_with p x [] px all = and_from (p x) true px refl
list_all-sorted_with p x (y ∷ ys) px all =
    let parts = and_parts (p y) (list_all p ys) all in
    elim (nat_le x y) as (λ b. list_all p (cond b (x ∷ y ∷ ys) (y ∷ sorted_with x ys)) ≡ true) [
      | true ↦ and_from (p x) (list_all p (y ∷ ys)) px all
      | false ↦ and_from (p y) (list_all p (sorted_with x ys)) parts.0 (list_all-sorted_with p x ys px parts.1)
    ]

is_sorted-sorted_with : (x : ℕ) (ys : List ℕ) → is_sorted ys ≡ true → is_sorted (sorted_with x ys) ≡ true
is_sorted-sorted_with x [] sorted = refl
is_sorted-sorted_with x (y ∷ ys) sorted =
    let parts = and_parts (list_all (nat_le y) ys) (is_sorted ys) sorted in
    at (nat_le x y) refl sorted parts.0 (is_sorted-sorted_with x ys parts.1)
  where
    at : (b : Bool) → nat_le x y ≡ b → is_sorted (y ∷ ys) ≡ true → list_all (nat_le y) ys ≡ true → is_sorted (sorted_with x ys) ≡ true → is_sorted (cond b (x ∷ y ∷ ys) (y ∷ sorted_with x ys)) ≡ true
    at true e whole all rest =
        let first : x ≤ y = leb-true x y e in
        and_from (list_all (nat_le x) (y ∷ ys)) (is_sorted (y ∷ ys)) (and_from (nat_le x y) (list_all (nat_le x) ys) e (list_all-from x y ys first all)) whole
    at false e whole all rest =
        let late : y < x = leb-false x y e in
        and_from (list_all (nat_le y) (sorted_with x ys)) (is_sorted (sorted_with x ys)) (list_all-sorted_with (nat_le y) x ys (le-leb y x (omega (arith, late))) all) rest

pointwise-sorted_with : (x y : ℕ) (xs ys : List ℕ) → x ≤ y → is_sorted xs ≡ true → is_sorted ys ≡ true → pointwise nat_le xs ys ≡ true → pointwise nat_le (sorted_with x xs) (sorted_with y ys) ≡ true
pointwise-sorted_with x y [] [] h s t below = and_from (nat_le x y) true (le-leb x y h) refl
pointwise-sorted_with x y [] (b ∷ bs) h s t below = absurd (false≢true below)
pointwise-sorted_with x y (a ∷ as_) [] h s t below = absurd (false≢true below)
pointwise-sorted_with x y (a ∷ as_) (b ∷ bs) h s t below =
    let parts = and_parts (nat_le a b) (pointwise nat_le as_ bs) below in
    let first : a ≤ b = leb-true a b parts.0 in
    rw (sorted_with-carry x a as_ s, sorted_with-carry y b bs t)
    (and_from (nat_le (min a x) (min b y)) (pointwise nat_le (sorted_with (max a x) as_) (sorted_with (max b y) bs))
    (le-leb (min a x) (min b y) (omega (arith, first, h)))
    (pointwise-sorted_with (max a x) (max b y) as_ bs (omega (arith, first, h)) (is_sorted-drop_one (a ∷ as_) s) (is_sorted-drop_one (b ∷ bs) t) parts.1))

-- ---- raised numbers

list_all-raised : (floor y : ℕ) (ys : List ℕ) → list_all (nat_le y) ys ≡ true → list_all (nat_le (max floor y)) (map (max floor) ys) ≡ true
list_all-raised floor y [] all = refl
list_all-raised floor y (z ∷ zs) all =
    let parts = and_parts (nat_le y z) (list_all (nat_le y) zs) all in
    let first : y ≤ z = leb-true y z parts.0 in
    and_from (nat_le (max floor y) (max floor z)) (list_all (nat_le (max floor y)) (map (max floor) zs)) (le-leb (max floor y) (max floor z) (omega (arith, first))) (list_all-raised floor y zs parts.1)

pub is_sorted-raised : (floor : ℕ) (ys : List ℕ) → is_sorted ys ≡ true → is_sorted (map (max floor) ys) ≡ true
is_sorted-raised floor [] sorted = refl
is_sorted-raised floor (y ∷ ys) sorted =
    let parts = and_parts (list_all (nat_le y) ys) (is_sorted ys) sorted in
    and_from (list_all (nat_le (max floor y)) (map (max floor) ys)) (is_sorted (map (max floor) ys)) (list_all-raised floor y ys parts.0) (is_sorted-raised floor ys parts.1)

length-raised : (floor : ℕ) (xs : List ℕ) → length (map (max floor) xs) ≡ length xs
length-raised floor [] = refl
length-raised floor (x ∷ xs) = ap suc (length-raised floor xs)

pointwise-raised : (floor later_floor : ℕ) (xs ys : List ℕ) → floor ≤ later_floor → pointwise nat_le xs ys ≡ true → pointwise nat_le (map (max floor) xs) (map (max later_floor) ys) ≡ true
pointwise-raised floor later_floor [] [] h below = refl
pointwise-raised floor later_floor [] (b ∷ bs) h below = absurd (false≢true below)
pointwise-raised floor later_floor (a ∷ as_) [] h below = absurd (false≢true below)
pointwise-raised floor later_floor (a ∷ as_) (b ∷ bs) h below =
    let parts = and_parts (nat_le a b) (pointwise nat_le as_ bs) below in
    let first : a ≤ b = leb-true a b parts.0 in
    and_from (nat_le (max floor a) (max later_floor b)) (pointwise nat_le (map (max floor) as_) (map (max later_floor) bs))
    (le-leb (max floor a) (max later_floor b) (omega (arith, first, h))) (pointwise-raised floor later_floor as_ bs h parts.1)

pointwise-drop_one : (xs ys : List ℕ) → pointwise nat_le xs ys ≡ true → pointwise nat_le (drop 1 xs) (drop 1 ys) ≡ true
pointwise-drop_one [] [] below = refl
pointwise-drop_one [] (b ∷ bs) below = absurd (false≢true below)
pointwise-drop_one (a ∷ as_) [] below = absurd (false≢true below)
pointwise-drop_one (a ∷ as_) (b ∷ bs) below = (and_parts (nat_le a b) (pointwise nat_le as_ bs) below).1

-- ---- a start

pub is_sorted-after_start : (floor end : ℕ) (xs : List ℕ) → is_sorted xs ≡ true → is_sorted (after_start floor end xs) ≡ true
is_sorted-after_start floor end xs sorted =
    is_sorted-sorted_with end (map (max floor) (drop 1 xs)) (is_sorted-raised floor (drop 1 xs) (is_sorted-drop_one xs sorted))

pub length-after_start : (floor end : ℕ) (xs : List ℕ) → 0 < length xs → length (after_start floor end xs) ≡ length xs
length-after_start floor end [] some = absurd (omega (arith, some))
length-after_start floor end (x ∷ xs) some = omega (arith, length-sorted_with end (map (max floor) xs), length-raised floor xs)

pub pointwise-after_start : (floor later_floor end later_end : ℕ) (xs ys : List ℕ) → floor ≤ later_floor → end ≤ later_end → is_sorted xs ≡ true → is_sorted ys ≡ true →
    pointwise nat_le xs ys ≡ true → pointwise nat_le (after_start floor end xs) (after_start later_floor later_end ys) ≡ true
pointwise-after_start floor later_floor end later_end xs ys floors ends s t below =
    pointwise-sorted_with end later_end (map (max floor) (drop 1 xs)) (map (max later_floor) (drop 1 ys)) ends
    (is_sorted-raised floor (drop 1 xs) (is_sorted-drop_one xs s))
    (is_sorted-raised later_floor (drop 1 ys) (is_sorted-drop_one ys t))
    (pointwise-raised floor later_floor (drop 1 xs) (drop 1 ys) floors (pointwise-drop_one xs ys below))

pub start_keeps_order : StartKeepsOrder
start_keeps_order floor end xs sorted some = (is_sorted-after_start floor end xs sorted, length-after_start floor end xs some)

pub start_keeps_below : StartKeepsBelow
start_keeps_below = pointwise-after_start

-- ---- by places

list_all-from_places : (x : ℕ) (ys : List ℕ) → ((k : ℕ) → k < length ys → x ≤ get_or ys k 0) → list_all (nat_le x) ys ≡ true
list_all-from_places x [] above = refl
list_all-from_places x (y ∷ ys) above =
    and_from (nat_le x y) (list_all (nat_le x) ys) (le-leb x y (above 0 (omega arith)))
    (list_all-from_places x ys (λ k h. above (suc k) (omega (arith, h))))

pub is_sorted-from_places : (xs : List ℕ) → ((i j : ℕ) → i ≤ j → j < length xs → get_or xs i 0 ≤ get_or xs j 0) → is_sorted xs ≡ true
is_sorted-from_places [] up = refl
is_sorted-from_places (x ∷ xs) up =
    and_from (list_all (nat_le x) xs) (is_sorted xs)
    (list_all-from_places x xs (λ k h. up 0 (suc k) (omega arith) (omega (arith, h))))
    (is_sorted-from_places xs (λ i j h k. up (suc i) (suc j) (omega (arith, h)) (omega (arith, k))))

-- in a sorted list no number is greater than one at a later place
pub places_rise : (xs : List ℕ) (i j : ℕ) → is_sorted xs ≡ true → i ≤ j → j < length xs → get_or xs i 0 ≤ get_or xs j 0
places_rise [] i j sorted h below = absurd (omega (arith, below))
places_rise (x ∷ xs) zero zero sorted h below = omega arith
places_rise (x ∷ xs) zero (suc j) sorted h below = list_all-place x xs j (omega (arith, below)) (and_parts (list_all (nat_le x) xs) (is_sorted xs) sorted).0
places_rise (x ∷ xs) (suc i) zero sorted h below = absurd (omega (arith, h))
places_rise (x ∷ xs) (suc i) (suc j) sorted h below = places_rise xs i j (and_parts (list_all (nat_le x) xs) (is_sorted xs) sorted).1 (omega (arith, h)) (omega (arith, below))

-- where each number is at most its fellow, so it is at a place
pub pointwise-place : (xs ys : List ℕ) (x : ℕ) → pointwise nat_le xs ys ≡ true → get_or xs x 0 ≤ get_or ys x 0
pointwise-place [] [] x below = omega arith
pointwise-place [] (b ∷ bs) x below = absurd (false≢true below)
pointwise-place (a ∷ as_) [] x below = absurd (false≢true below)
pointwise-place (a ∷ as_) (b ∷ bs) zero below = leb-true a b (and_parts (nat_le a b) (pointwise nat_le as_ bs) below).0
pointwise-place (a ∷ as_) (b ∷ bs) (suc x) below = pointwise-place as_ bs x (and_parts (nat_le a b) (pointwise nat_le as_ bs) below).1

-- std's answer is this one
pub is_sorted-answer : (xs : List ℕ) (r : Bool) → IsAllAdjacentAnswer (λ x y b. is_some_and is_le (Some (nat_cmp x y)) ≡ b) xs r → r ≡ is_sorted xs
is_sorted-answer xs r answer = at r (non_decreasing_from_is_sorted xs r answer)
  where
    at : (b : Bool) → MatchBool b (IsNonDecreasing xs) ((k : ℕ) × (k + 1 < length xs) × ((d : ℕ) → get_or xs (k + 1) d < get_or xs k d)) → b ≡ is_sorted xs
    at true up = sym (is_sorted-from_places xs (λ i j h k. up i j 0 h k))
    at false (k, within, falls) =
        let fall : get_or xs (k + 1) 0 < get_or xs k 0 = falls 0 in
        sym (false_from_ne_true (is_sorted xs) (λ sorted.
        let rise : get_or xs k 0 ≤ get_or xs (k + 1) 0 = places_rise xs k (k + 1) sorted (omega arith) within in
        omega (arith, fall, rise)))

list_all-zeros : (n : ℕ) → list_all (nat_le 0) (replicate n 0) ≡ true
list_all-zeros zero = refl
list_all-zeros (suc n) = and_from true (list_all (nat_le 0) (replicate n 0)) refl (list_all-zeros n)

pub is_sorted-zeros : (n : ℕ) → is_sorted (replicate n 0) ≡ true
is_sorted-zeros zero = refl
is_sorted-zeros (suc n) = and_from (list_all (nat_le 0) (replicate n 0)) (is_sorted (replicate n 0)) (list_all-zeros n) (is_sorted-zeros n)
