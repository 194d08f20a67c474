-- A list whose first numbers are capped.
use Rattle.std.proofs.Common.{◌≡◌, ℕ, zero, suc, ◌<◌, ◌≤◌, ◌⊎◌, inl, inr, ⊎_elim, get_or, true, List, [], ◌∷◌, length, refl, ap, ◌∙◌, arith, max, min}
use Rattle.std.specs.Prelude.{nat_le}
use Rattle.std.specs.List.{list_all}
use Rattle.std.specs.Cmp.Lexicographic.{pointwise}
use Rattle.std.proofs.lemmas.Bool.{and_parts, and_from, leb-true, le-leb, false≢true}
use Rattle.sag_time.specs.Sorted.{is_sorted, cap_first}
use Rattle.sag_time.specs.Laws.{CapKeepsOrder, CapLowers}

pub length-cap_first : (low : List ℕ) (n cap : ℕ) (xs : List ℕ) → length (cap_first low n cap xs) ≡ length xs
length-cap_first low n cap [] = refl
length-cap_first [] n cap (x ∷ xs) = refl
length-cap_first (l ∷ low) zero cap (x ∷ xs) = refl
length-cap_first (l ∷ low) (suc n) cap (x ∷ xs) = ap suc (length-cap_first low n cap xs)

weaker : (v x : ℕ) (ys : List ℕ) → v ≤ x → list_all (nat_le x) ys ≡ true → list_all (nat_le v) ys ≡ true
weaker v x [] h all = refl
weaker v x (z ∷ zs) h all =
    let p = and_parts (nat_le x z) (list_all (nat_le x) zs) all in
    and_from (nat_le v z) (list_all (nat_le v) zs) (le-leb v z (omega (arith, h, leb-true x z p.0))) (weaker v x zs h p.1)

-- what the first number becomes is at most all that the others become
above : (cap v l x n : ℕ) (low xs : List ℕ) → v ≡ max l (min x cap) → l ≤ x → list_all (nat_le l) low ≡ true → list_all (nat_le x) xs ≡ true →
    list_all (nat_le v) (cap_first low n cap xs) ≡ true
above cap v l x n low [] is h a b = refl
above cap v l x n [] (y ∷ ys) is h a b = weaker v x (y ∷ ys) (omega (arith, is, h)) b
above cap v l x zero (k ∷ low) (y ∷ ys) is h a b = weaker v x (y ∷ ys) (omega (arith, is, h)) b
above cap v l x (suc n) (k ∷ low) (y ∷ ys) is h a b =
    let p = and_parts (nat_le x y) (list_all (nat_le x) ys) b in
    let q = and_parts (nat_le l k) (list_all (nat_le l) low) a in
    and_from (nat_le v (max k (min y cap))) (list_all (nat_le v) (cap_first low n cap ys))
    (le-leb v (max k (min y cap)) (omega (arith, is, leb-true x y p.0, leb-true l k q.0))) (above cap v l x n low ys is h q.1 p.1)

-- the capped list is sorted
pub is_sorted-cap_first : (low : List ℕ) (n cap : ℕ) (xs : List ℕ) → is_sorted low ≡ true → is_sorted xs ≡ true → pointwise nat_le low xs ≡ true →
    is_sorted (cap_first low n cap xs) ≡ true
is_sorted-cap_first low n cap [] s t h = refl
is_sorted-cap_first [] n cap (x ∷ xs) s t h = t
is_sorted-cap_first (l ∷ low) zero cap (x ∷ xs) s t h = t
is_sorted-cap_first (l ∷ low) (suc n) cap (x ∷ xs) s t h =
    let ps = and_parts (list_all (nat_le l) low) (is_sorted low) s in
    let pt = and_parts (list_all (nat_le x) xs) (is_sorted xs) t in
    let ph = and_parts (nat_le l x) (pointwise nat_le low xs) h in
    and_from (list_all (nat_le (max l (min x cap))) (cap_first low n cap xs)) (is_sorted (cap_first low n cap xs))
    (above cap (max l (min x cap)) l x n low xs refl (leb-true l x ph.0) ps.0 pt.0) (is_sorted-cap_first low n cap xs ps.1 pt.1 ph.1)

-- it is not below the lows
pub pointwise-cap_first : (low : List ℕ) (n cap : ℕ) (xs : List ℕ) → pointwise nat_le low xs ≡ true → pointwise nat_le low (cap_first low n cap xs) ≡ true
pointwise-cap_first low n cap [] h = h
pointwise-cap_first [] n cap (x ∷ xs) h = h
pointwise-cap_first (l ∷ low) zero cap (x ∷ xs) h = h
pointwise-cap_first (l ∷ low) (suc n) cap (x ∷ xs) h =
    let ph = and_parts (nat_le l x) (pointwise nat_le low xs) h in
    and_from (nat_le l (max l (min x cap))) (pointwise nat_le low (cap_first low n cap xs)) (le-leb l (max l (min x cap)) (omega arith))
    (pointwise-cap_first low n cap xs ph.1)

itself : (xs : List ℕ) → pointwise nat_le xs xs ≡ true
itself [] = refl
itself (x ∷ xs) = and_from (nat_le x x) (pointwise nat_le xs xs) (le-leb x x (omega arith)) (itself xs)

-- no number grows
pub cap_first-below : (low : List ℕ) (n cap : ℕ) (xs : List ℕ) → pointwise nat_le low xs ≡ true → pointwise nat_le (cap_first low n cap xs) xs ≡ true
cap_first-below low n cap [] h = refl
cap_first-below [] n cap (x ∷ xs) h = absurd (false≢true h)
cap_first-below (l ∷ low) zero cap (x ∷ xs) h = itself (x ∷ xs)
cap_first-below (l ∷ low) (suc n) cap (x ∷ xs) h =
    let ph = and_parts (nat_le l x) (pointwise nat_le low xs) h in
    and_from (nat_le (max l (min x cap)) x) (pointwise nat_le (cap_first low n cap xs) xs)
    (le-leb (max l (min x cap)) x (omega (arith, leb-true l x ph.0))) (cap_first-below low n cap xs ph.1)

-- a limit of both lists is one of the capped list
pub all-cap_first : (limit : ℕ) (low : List ℕ) (n cap : ℕ) (xs : List ℕ) → list_all (λ t. nat_le t limit) low ≡ true → list_all (λ t. nat_le t limit) xs ≡ true →
    list_all (λ t. nat_le t limit) (cap_first low n cap xs) ≡ true
all-cap_first limit low n cap [] a b = refl
all-cap_first limit [] n cap (x ∷ xs) a b = b
all-cap_first limit (l ∷ low) zero cap (x ∷ xs) a b = b
all-cap_first limit (l ∷ low) (suc n) cap (x ∷ xs) a b =
    let p = and_parts (nat_le l limit) (list_all (λ t. nat_le t limit) low) a in
    let q = and_parts (nat_le x limit) (list_all (λ t. nat_le t limit) xs) b in
    and_from (nat_le (max l (min x cap)) limit) (list_all (λ t. nat_le t limit) (cap_first low n cap xs))
    (le-leb (max l (min x cap)) limit (omega (arith, leb-true l limit p.0, leb-true x limit q.0))) (all-cap_first limit low n cap xs p.1 q.1)

-- more than all are no more than all
pub cap_first-most : (low : List ℕ) (n cap : ℕ) (xs : List ℕ) → cap_first low (min n (length xs)) cap xs ≡ cap_first low n cap xs
cap_first-most low n cap [] = refl
cap_first-most [] n cap (x ∷ xs) = refl
cap_first-most (l ∷ low) zero cap (x ∷ xs) = let none : min 0 (suc (length xs)) ≡ 0 = omega arith in ap (λ k. cap_first (l ∷ low) k cap (x ∷ xs)) none
cap_first-most (l ∷ low) (suc n) cap (x ∷ xs) =
    let one : min (suc n) (suc (length xs)) ≡ suc (min n (length xs)) = omega arith in
    ap (λ k. cap_first (l ∷ low) k cap (x ∷ xs)) one ∙ ap (λ ys. max l (min x cap) ∷ ys) (cap_first-most low n cap xs)

pub cap_keeps_order : CapKeepsOrder
cap_keeps_order low n cap xs s t h = (is_sorted-cap_first low n cap xs s t h, length-cap_first low n cap xs, pointwise-cap_first low n cap xs h)

pub cap_lowers : CapLowers
cap_lowers = cap_first-below

-- a number of the capped list is that of the list, or at least the lesser of it and the cap
pub cap_first-place : (low : List ℕ) (n cap : ℕ) (xs : List ℕ) (x : ℕ) →
    (get_or (cap_first low n cap xs) x 0 ≡ get_or xs x 0) ⊎ ((x < n) × (min (get_or xs x 0) cap ≤ get_or (cap_first low n cap xs) x 0))
cap_first-place low n cap [] x = inl refl
cap_first-place [] n cap (y ∷ ys) x = inl refl
cap_first-place (l ∷ low) zero cap (y ∷ ys) x = inl refl
cap_first-place (l ∷ low) (suc n) cap (y ∷ ys) zero = inr (omega arith, omega arith)
cap_first-place (l ∷ low) (suc n) cap (y ∷ ys) (suc x) = ⊎_elim
    (λ (same : get_or (cap_first low n cap ys) x 0 ≡ get_or ys x 0). inl same)
    (λ (less : (x < n) × (min (get_or ys x 0) cap ≤ get_or (cap_first low n cap ys) x 0)). inr (omega (arith, less.0), less.1))
    (cap_first-place low n cap ys x)

-- no number is capped
pub cap_first-none : (low : List ℕ) (n cap : ℕ) (xs : List ℕ) → n ≡ 0 → cap_first low n cap xs ≡ xs
cap_first-none low n cap [] none = refl
cap_first-none [] n cap (x ∷ xs) none = refl
cap_first-none (l ∷ low) n cap (x ∷ xs) none = ap (λ k. cap_first (l ∷ low) k cap (x ∷ xs)) none
