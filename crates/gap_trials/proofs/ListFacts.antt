-- Lists that are empty or equal, and their items.
use Rattle.std.proofs.Common.{◌≡◌, ◌<◌, ◌⊎◌, ◌∙◌, ℕ, zero, suc, List, [], ◌∷◌, ◌++◌, Some, ap, arith, inl, inr, length, map, refl, sym}
use Rattle.std.specs.Prelude.{slice_get}
use Rattle.std.specs.List.{range_with_len}
use Rattle.std.proofs.lemmas.List.FromFn.{get_or-map-range_with_len, length-map-range_with_len}
use Rattle.std.proofs.lemmas.Option.{get_or_from_slice_get, slice_get_within}

-- a list without length has no item
pub no-items : {X : Type 0} (xs : List X) → length xs ≡ 0 → xs ≡ []
no-items [] none = refl
no-items (x ∷ xs) none = absurd (omega (arith, none))

-- two lists of one length with the same item at each place are one
pub same-items : {X : Type 0} (xs ys : List X) → length xs ≡ length ys → ((j : ℕ) (x y : X) → slice_get xs j ≡ Some x → slice_get ys j ≡ Some y → x ≡ y) → xs ≡ ys
same-items [] [] long same = refl
same-items [] (y ∷ ys) long same = absurd (omega (arith, long))
same-items (x ∷ xs) [] long same = absurd (omega (arith, long))
same-items {X = X} (x ∷ xs) (y ∷ ys) long same =
    let rest : xs ≡ ys = same-items xs ys (omega (arith, long)) (λ j u v at at'. same (suc j) u v at at') in
    ap (λ (z : X). z ∷ xs) (same zero x y refl refl) ∙ ap (λ (zs : List X). y ∷ zs) rest

-- an item of a list with one more at its end
pub pushed-item : {X : Type 0} (xs : List X) (z : X) (j : ℕ) (x : X) → slice_get (xs ++ z ∷ []) j ≡ Some x → (slice_get xs j ≡ Some x) ⊎ ((j ≡ length xs) × (z ≡ x))
pushed-item [] z zero x at = let same : z ≡ x = cc in inr (refl, same)
pushed-item [] z (suc j) x at = cc
pushed-item (y ∷ xs) z zero x at = inl at
pushed-item (y ∷ xs) z (suc j) x at = elim (pushed-item xs z j x at) [
  | inl before ↦ inl before
  | inr last ↦ let number : suc j ≡ suc (length xs) = ap suc last.0 in inr (number, last.1)
]

-- an item of a list that is made of numbers
pub numbered-item : {X : Type 0} (f : ℕ → X) (n j : ℕ) (x : X) → slice_get (map f (range_with_len 0 n)) j ≡ Some x → (j < n) × (x ≡ f j)
numbered-item f n j x at =
    let within : j < n = omega (arith, slice_get_within (map f (range_with_len 0 n)) j x at, length-map-range_with_len f 0 n) in
    (within, sym (get_or_from_slice_get (map f (range_with_len 0 n)) j x x at) ∙ get_or-map-range_with_len f 0 n j j x within (omega arith))
