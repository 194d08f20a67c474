-- Lists with the same numbers, as often: in any order, and in rising order.
use Rattle.std.proofs.Common.{◌≡◌, ℕ, zero, suc, ◌+◌, ◌-◌, ◌<◌, ◌≤◌, Bool, true, false, cond, List, [], ◌∷◌, map, min, max, refl, ap, ◌∙◌, sym, arith, Option, Some, None, eqb}
use Rattle.std.specs.Prelude.{filter, IsPermutation}
use Rattle.std.specs.List.{AllByRecursion, sum_by, range_with_len}
use Rattle.std.specs.List.Sorted.{IsNonDecreasingBy}
use Rattle.std.specs.Option.{option_map_or}
use Rattle.std.proofs.lemmas.Bool.{cond-true, cond-false, eqb-true, eq-eqb}
use Rattle.std.proofs.lemmas.List.Elements.{All-map, recursion_from_All}
use Rattle.std.proofs.lemmas.List.Sorted.{sum_by-IsPermutation}
use Rattle.std.proofs.lemmas.List.Sums.{sum_by-cons}
use Rattle.lists.specs.Numbers.{least}
use Rattle.start_windows.specs.Prospects.{IsShuffle, capped, times_in}
use Rattle.start_windows.proofs.Caps.{capped-le, capped-least}

pub IsShuffle-sym : (xs ys : List ℕ) → IsShuffle xs ys → IsShuffle ys xs
IsShuffle-sym xs ys same = record { sums = λ f. sym (same.sums f) }

pub IsShuffle-from_permutation : (xs ys : List ℕ) → IsPermutation xs ys → IsShuffle xs ys
IsShuffle-from_permutation xs ys moved = record { sums = λ f. sym (sum_by-IsPermutation f xs ys moved) }

pub sum_by-when : (f : ℕ → ℕ) (p : ℕ → Bool) (xs : List ℕ) → sum_by f (filter p xs) ≡ sum_by (λ x. cond (p x) (f x) 0) xs
sum_by-when f p [] = refl
sum_by-when f p (x ∷ xs) = by_test (p x) (sum_by-when f p xs) ∙ sym (sum_by-cons (λ x. cond (p x) (f x) 0) x xs)
  where
    by_test : (t : Bool) → sum_by f (filter p xs) ≡ sum_by (λ x. cond (p x) (f x) 0) xs → sum_by f (cond t (x ∷ filter p xs) (filter p xs)) ≡ cond t (f x) 0 + sum_by (λ x. cond (p x) (f x) 0) xs
    by_test true e = sum_by-cons f x (filter p xs) ∙ ap (λ n. f x + n) e
    by_test false e = omega arith

pub IsShuffle-filter : (p : ℕ → Bool) (xs ys : List ℕ) → IsShuffle xs ys → IsShuffle (filter p xs) (filter p ys)
IsShuffle-filter p xs ys same = record { sums = λ f. sum_by-when f p xs ∙ same.sums (λ x. cond (p x) (f x) 0) ∙ sym (sum_by-when f p ys) }

-- ---- the least of what f gives of those that pass does not depend on their order

module _ (c m : ℕ) (f : ℕ → ℕ) (p : ℕ → Bool) where
  -- what f of a number lacks to m, if the number passes
  abbrev lack : ℕ → ℕ
  lack x = cond (p x) (m - f x) 0

  none_lacks : (xs : List ℕ) → m ≤ capped c (map f (filter p xs)) → sum_by lack xs ≡ 0
  none_lacks [] h = refl
  none_lacks (x ∷ xs) h = sum_by-cons lack x xs ∙ by_test (p x) h (none_lacks xs)
    where
      by_test : (t : Bool) → m ≤ capped c (map f (cond t (x ∷ filter p xs) (filter p xs))) → (m ≤ capped c (map f (filter p xs)) → sum_by lack xs ≡ 0) → cond t (m - f x) 0 + sum_by lack xs ≡ 0
      by_test true h rest = omega (arith, h, rest (omega (arith, h)))
      by_test false h rest = omega (arith, rest h)

  not_below : (xs : List ℕ) → m ≤ c → sum_by lack xs ≡ 0 → m ≤ capped c (map f (filter p xs))
  not_below [] le e = le
  not_below (x ∷ xs) le e = by_test (p x) (sym (sum_by-cons lack x xs) ∙ e) (not_below xs le)
    where
      by_test : (t : Bool) → cond t (m - f x) 0 + sum_by lack xs ≡ 0 → (sum_by lack xs ≡ 0 → m ≤ capped c (map f (filter p xs))) → m ≤ capped c (map f (cond t (x ∷ filter p xs) (filter p xs)))
      by_test true e rest = omega (arith, e, rest (omega (arith, e)))
      by_test false e rest = rest (omega (arith, e))

pub capped-shuffle : (c : ℕ) (f : ℕ → ℕ) (p : ℕ → Bool) (xs ys : List ℕ) → IsShuffle xs ys → capped c (map f (filter p xs)) ≡ capped c (map f (filter p ys))
capped-shuffle c f p xs ys same =
    let le : (us vs : List ℕ) → IsShuffle us vs → capped c (map f (filter p us)) ≤ capped c (map f (filter p vs)) =
    λ us vs like. let m = capped c (map f (filter p us)) in not_below c m f p vs (capped-le c (map f (filter p us))) (sym (like.sums (lack c m f p)) ∙ none_lacks c m f p us (omega arith)) in
    omega (arith, le xs ys same, le ys xs (IsShuffle-sym xs ys same))

-- two least numbers that cap alike
least_from_caps : (a b : Option ℕ) → ((c : ℕ) → option_map_or (λ r. min r c) a c ≡ option_map_or (λ r. min r c) b c) → a ≡ b
least_from_caps None None h = refl
least_from_caps None (Some s) h = absurd (differ s (h (suc s)))
  where
    differ : (s : ℕ) → suc s ≡ min s (suc s) → ⊥
    differ s e = omega arith
least_from_caps (Some r) None h = absurd (differ r (h (suc r)))
  where
    differ : (s : ℕ) → min s (suc s) ≡ suc s → ⊥
    differ s e = omega arith
least_from_caps (Some r) (Some s) h = ap Some (same r s (h (max r s)))
  where
    same : (r s : ℕ) → min r (max r s) ≡ min s (max r s) → r ≡ s
    same r s e = omega arith

-- the least does not depend on the order
pub least-shuffle : (f : ℕ → ℕ) (p : ℕ → Bool) (xs ys : List ℕ) → IsShuffle xs ys → least (map f (filter p xs)) ≡ least (map f (filter p ys))
least-shuffle f p xs ys same =
    least_from_caps (least (map f (filter p xs))) (least (map f (filter p ys)))
    (λ c. sym (capped-least c (map f (filter p xs))) ∙ capped-shuffle c f p xs ys same ∙ capped-least c (map f (filter p ys)))

-- how often j stands in a list
abbrev pub hits : ℕ → ℕ → ℕ
hits j k = cond (eqb k j) 1 0

abbrev pub Rises : List ℕ → Type 0
Rises [] = Unit {0}
Rises (x ∷ xs) = AllByRecursion (λ y. x ≤ y) xs × Rises xs

low-hit : (m x : ℕ) (ys : List ℕ) → AllByRecursion (λ y. m ≤ y) ys → 0 < sum_by (hits x) ys → m ≤ x
low-hit m x [] all h = absurd (none h)
  where
    none : 0 < 0 → ⊥
    none h = omega arith
low-hit m x (y ∷ ys) all h = by_test (eqb y x) refl (low-hit m x ys all.1) (omega (arith, h, sum_by-cons (hits x) y ys))
  where
    by_test : (t : Bool) → eqb y x ≡ t → (0 < sum_by (hits x) ys → m ≤ x) → 0 < cond t 1 0 + sum_by (hits x) ys → m ≤ x
    by_test true e ih k = omega (arith, eqb-true y x e, all.0)
    by_test false e ih k = ih (omega (arith, k))

own-hit : (x : ℕ) → hits x x ≡ 1
own-hit x = cond-true _ _ _ (eq-eqb x x refl)

first_hit : (x : ℕ) (xs : List ℕ) → sum_by (hits x) (x ∷ xs) ≡ 1 + sum_by (hits x) xs
first_hit x xs = omega (arith, sum_by-cons (hits x) x xs, own-hit x)

-- rising lists with the same numbers, as often, are one
pub rises-unique : (xs ys : List ℕ) → Rises xs → Rises ys → ((j : ℕ) → sum_by (hits j) xs ≡ sum_by (hits j) ys) → xs ≡ ys
rises-unique [] [] p q same = refl
rises-unique [] (y ∷ ys) p q same = absurd (none (sum_by (hits y) ys) (same y ∙ first_hit y ys))
  where
    none : (n : ℕ) → 0 ≡ 1 + n → ⊥
    none n h = omega arith
rises-unique (x ∷ xs) [] p q same = absurd (none (sum_by (hits x) xs) (sym (same x) ∙ first_hit x xs))
  where
    none : (n : ℕ) → 0 ≡ 1 + n → ⊥
    none n h = omega arith
rises-unique (x ∷ xs) (y ∷ ys) p q same =
    let hit_x : 0 < sum_by (hits x) (y ∷ ys) = omega (arith, same x, first_hit x xs) in
    let hit_y : 0 < sum_by (hits y) (x ∷ xs) = omega (arith, same y, first_hit y ys) in
    let below_x : y ≤ x = low-hit y x (y ∷ ys) (omega arith, q.0) hit_x in
    let below_y : x ≤ y = low-hit x y (x ∷ xs) (omega arith, p.0) hit_y in
    let head : x ≡ y = omega arith in
    let rest : (j : ℕ) → sum_by (hits j) xs ≡ sum_by (hits j) ys = λ j. omega (arith, same j, ap (hits j) head, sum_by-cons (hits j) x xs, sum_by-cons (hits j) y ys) in
    ap (λ z. z ∷ xs) head ∙ ap (λ l. y ∷ l) (rises-unique xs ys p.1 q.1 rest)

AllByRecursion-filter : (P : ℕ → Type 0) (p : ℕ → Bool) (xs : List ℕ) → AllByRecursion P xs → AllByRecursion P (filter p xs)
AllByRecursion-filter P p [] all = tt
AllByRecursion-filter P p (x ∷ xs) all = by_test (p x) (AllByRecursion-filter P p xs all.1)
  where
    by_test : (t : Bool) → AllByRecursion P (filter p xs) → AllByRecursion P (cond t (x ∷ filter p xs) (filter p xs))
    by_test true r = (all.0, r)
    by_test false r = r

pub Rises-filter : (p : ℕ → Bool) (xs : List ℕ) → Rises xs → Rises (filter p xs)
Rises-filter p [] up = tt
Rises-filter p (x ∷ xs) up = by_test (p x) (Rises-filter p xs up.1)
  where
    by_test : (t : Bool) → Rises (filter p xs) → Rises (cond t (x ∷ filter p xs) (filter p xs))
    by_test true r = (AllByRecursion-filter (λ y. x ≤ y) p xs up.0, r)
    by_test false r = r

pub Rises-range : (a n : ℕ) → Rises (range_with_len a n)
Rises-range a zero = tt
Rises-range a (suc n) = (above a (a + 1) n (omega arith), Rises-range (a + 1) n)
  where
    above : (m a n : ℕ) → m ≤ a → AllByRecursion (λ y. m ≤ y) (range_with_len a n)
    above m a zero h = tt
    above m a (suc n) h = (h, above m (a + 1) n (omega arith))

pub Rises-by : {X : Type 0} (n : X → ℕ) (xs : List X) → IsNonDecreasingBy n xs → Rises (map n xs)
Rises-by n [] up = tt
Rises-by {X} n (x ∷ xs) up = (
  recursion_from_All (λ y. n x ≤ y) (map n xs) (All-map (λ y. n x ≤ y) n xs (λ k d lt. up 0 (suc k) d (omega arith) (omega arith))),
  Rises-by n xs (λ i j d le lt. up (suc i) (suc j) d (omega arith) (omega arith)),
)

-- each number below n is there once
pub times_in-range : (a n j : ℕ) → times_in (range_with_len a n) j ≤ 1
times_in-range a n j = (counted a n).0
  where
    counted : (a n : ℕ) → (times_in (range_with_len a n) j ≤ 1) × (j < a → times_in (range_with_len a n) j ≡ 0)
    counted a zero = (omega arith, λ h. refl)
    counted a (suc n) = by_test (eqb a j) refl (counted (a + 1) n)
      where
        by_test : (t : Bool) → eqb a j ≡ t → (times_in (range_with_len (a + 1) n) j ≤ 1) × (j < a + 1 → times_in (range_with_len (a + 1) n) j ≡ 0)
            → (times_in (a ∷ range_with_len (a + 1) n) j ≤ 1) × (j < a → times_in (a ∷ range_with_len (a + 1) n) j ≡ 0)
        by_test true e rest =
            let same : a ≡ j = eqb-true a j e in
            let none : times_in (range_with_len (a + 1) n) j ≡ 0 = rest.1 (omega (arith, same)) in
            let here : hits j a ≡ 1 = cond-true _ _ _ e in
            (omega (arith, sum_by-cons (hits j) a (range_with_len (a + 1) n), here, none), λ h. absurd (omega (arith, h, same)))
        by_test false e rest =
            let here : hits j a ≡ 0 = cond-false _ _ _ e in
            (omega (arith, sum_by-cons (hits j) a (range_with_len (a + 1) n), here, rest.0), λ h. omega (arith, sum_by-cons (hits j) a (range_with_len (a + 1) n), here, rest.1 (omega (arith, h))))
