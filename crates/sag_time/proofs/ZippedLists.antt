-- Lists made of two, place by place.
use Rattle.std.proofs.Common.{◌≡◌, ℕ, zero, suc, ◌+◌, ◌<◌, ◌≤◌, Bool, true, List, [], ◌∷◌, ◌++◌, ◌&&◌, length, take, drop, set, refl, ap, sym, ◌∙◌, arith, min, max, get_or}
use Rattle.std.specs.Prelude.{nat_le}
use Rattle.std.specs.List.{list_all, zip}
use Rattle.std.specs.Cmp.Lexicographic.{pointwise}
use Rattle.std.proofs.lemmas.Bool.{and_parts, and_from, leb-true, le-leb}
use Rattle.std.proofs.lemmas.List.{get_or_default}
use Rattle.sag_time.specs.Sorted.{is_sorted}
use Rattle.lists.specs.Zipped.{zip_with}

pub length-zip_with : (f : ℕ → ℕ → ℕ) (xs ys : List ℕ) → length xs ≡ length ys → length (zip_with f xs ys) ≡ length xs
length-zip_with f [] ys long = refl
length-zip_with f (x ∷ xs) [] long = absurd (omega (arith, long))
length-zip_with f (x ∷ xs) (y ∷ ys) long = ap suc (length-zip_with f xs ys (omega (arith, long)))

module _ (f : ℕ → ℕ → ℕ) (mono : (a b c d : ℕ) → a ≤ c → b ≤ d → f a b ≤ f c d) where
  list_all-zip_with : (x y : ℕ) (xs ys : List ℕ) → list_all (nat_le x) xs ≡ true → list_all (nat_le y) ys ≡ true → list_all (nat_le (f x y)) (zip_with f xs ys) ≡ true
  list_all-zip_with x y [] ys s t = refl
  list_all-zip_with x y (a ∷ as_) [] s t = refl
  list_all-zip_with x y (a ∷ as_) (b ∷ bs) s t =
      let p = and_parts (nat_le x a) (list_all (nat_le x) as_) s in
      let q = and_parts (nat_le y b) (list_all (nat_le y) bs) t in
      and_from (nat_le (f x y) (f a b)) (list_all (nat_le (f x y)) (zip_with f as_ bs))
      (le-leb (f x y) (f a b) (mono x y a b (leb-true x a p.0) (leb-true y b q.0))) (list_all-zip_with x y as_ bs p.1 q.1)

  is_sorted-zip_with : (xs ys : List ℕ) → is_sorted xs ≡ true → is_sorted ys ≡ true → is_sorted (zip_with f xs ys) ≡ true
  is_sorted-zip_with [] ys s t = refl
  is_sorted-zip_with (x ∷ xs) [] s t = refl
  is_sorted-zip_with (x ∷ xs) (y ∷ ys) s t =
      let p = and_parts (list_all (nat_le x) xs) (is_sorted xs) s in
      let q = and_parts (list_all (nat_le y) ys) (is_sorted ys) t in
      and_from (list_all (nat_le (f x y)) (zip_with f xs ys)) (is_sorted (zip_with f xs ys)) (list_all-zip_with x y xs ys p.0 q.0) (is_sorted-zip_with xs ys p.1 q.1)

pub is_sorted-zip_min : (xs ys : List ℕ) → is_sorted xs ≡ true → is_sorted ys ≡ true → is_sorted (zip_with min xs ys) ≡ true
is_sorted-zip_min = is_sorted-zip_with min (λ a b c d h k. omega (arith, h, k))

pub is_sorted-zip_max : (xs ys : List ℕ) → is_sorted xs ≡ true → is_sorted ys ≡ true → is_sorted (zip_with max xs ys) ≡ true
is_sorted-zip_max = is_sorted-zip_with max (λ a b c d h k. omega (arith, h, k))

-- the list of which the first i places are done
abbrev pub zipped_to : (ℕ → ℕ → ℕ) → ℕ → List ℕ → List ℕ → List ℕ
zipped_to f i xs ys = zip_with f (take i xs) ys ++ drop i xs

zipped_more : (f : ℕ → ℕ → ℕ) (i : ℕ) (xs ys : List ℕ) → i < length xs → length xs ≡ length ys →
    set (zipped_to f i xs ys) i (f (get_or (zipped_to f i xs ys) i 0) (get_or ys i 0)) ≡ zipped_to f (suc i) xs ys
zipped_more f i [] ys h long = absurd (omega (arith, h))
zipped_more f i (x ∷ xs) [] h long = absurd (omega (arith, long))
zipped_more f zero (x ∷ xs) (y ∷ ys) h long = refl
zipped_more f (suc i) (x ∷ xs) (y ∷ ys) h long = ap (λ zs. f x y ∷ zs) (zipped_more f i xs ys (omega (arith, h)) (omega (arith, long)))

pub zipped_all : (f : ℕ → ℕ → ℕ) (xs ys : List ℕ) → length xs ≡ length ys → zipped_to f (length xs) xs ys ≡ zip_with f xs ys
zipped_all f [] ys long = refl
zipped_all f (x ∷ xs) [] long = absurd (omega (arith, long))
zipped_all f (x ∷ xs) (y ∷ ys) long = ap (λ zs. f x y ∷ zs) (zipped_all f xs ys (omega (arith, long)))

pub pointwise-from_zip : (p : ℕ → ℕ → Bool) (xs ys : List ℕ) → length xs ≡ length ys → list_all (λ (e : ℕ × ℕ). p e.0 e.1) (zip xs ys) ≡ pointwise p xs ys
pointwise-from_zip p [] [] long = refl
pointwise-from_zip p [] (y ∷ ys) long = absurd (omega (arith, long))
pointwise-from_zip p (x ∷ xs) [] long = absurd (omega (arith, long))
pointwise-from_zip p (x ∷ xs) (y ∷ ys) long = ap (λ b. p x y && b) (pointwise-from_zip p xs ys (omega (arith, long)))

-- a turn at place i
pub zipped_step : (f : ℕ → ℕ → ℕ) (i v y : ℕ) (xs ys zs : List ℕ) → zs ≡ zipped_to f i xs ys → y ≡ get_or ys i y → v ≡ f (get_or zs i 0) y → i < length xs → length xs ≡ length ys →
    set zs i v ≡ zipped_to f (i + 1) xs ys
zipped_step f i v y xs ys zs so_far here is below long =
    let after : i + 1 ≡ suc i = omega arith in
    let same : y ≡ get_or ys i 0 = here ∙ get_or_default ys i y 0 (omega (arith, below, long)) in
    (λ j. set (so_far j) i ((is ∙ (λ k. f (get_or (so_far k) i 0) (same k))) j)) ∙ zipped_more f i xs ys below long ∙ (λ j. zipped_to f (sym after j) xs ys)
