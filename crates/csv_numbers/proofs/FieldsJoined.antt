-- A line grows by a field.
use Rattle.std.proofs.Common.{◌≡◌, ◌<◌, ◌+◌, ◌++◌, ◌∷◌, ◌∙◌, [], ℕ, zero, suc, List, append_assoc, ap, arith, get_or, length, map, take}
use Rattle.std.specs.List.{join_with_byte}
use Rattle.std.proofs.lemmas.List.{take_all}
use Rattle.csv_numbers.specs.RowsText.{line_of, next_field}

module _ {A : Type 0} (f : A → List ℕ) where
  more : (xs : List A) (i : ℕ) (x d : A) → i < length xs → x ≡ get_or xs i d →
      join_with_byte 44 (map f (take i xs)) ++ next_field i (f x) ≡ join_with_byte 44 (map f (take (suc i) xs))
  more [] i x d lt is = absurd (omega (arith, lt))
  more (a ∷ xs) zero x d lt is = ap f is
  more (a ∷ []) (suc i) x d lt is = absurd (omega (arith, lt))
  more (a ∷ b ∷ xs) (suc zero) x d lt is = ap (λ y. f a ++ 44 ∷ f y) is
  more (a ∷ b ∷ xs) (suc (suc i)) x d lt is =
      append_assoc (f a) (44 ∷ join_with_byte 44 (f b ∷ map f (take i xs))) (44 ∷ f x)
      ∙ ap (λ t. f a ++ 44 ∷ t) (more (b ∷ xs) (suc i) x d (omega (arith, lt)) is)

  -- a text whose last line has its first i fields, and then one more
  pub joined_more : (text : List ℕ) (xs : List A) (i : ℕ) (x d : A) → i < length xs → x ≡ get_or xs i d →
      (text ++ join_with_byte 44 (map f (take i xs))) ++ next_field i (f x) ≡ text ++ join_with_byte 44 (map f (take (i + 1) xs))
  joined_more text xs i x d lt is =
      let next : suc i ≡ i + 1 = omega arith in
      append_assoc text (join_with_byte 44 (map f (take i xs))) (next_field i (f x))
      ∙ ap (λ t. text ++ t) (more xs i x d lt is ∙ ap (λ k. join_with_byte 44 (map f (take k xs))) next)

  -- a text whose last line has all its fields, and then ends
  pub joined_all : (text : List ℕ) (xs : List A) (i : ℕ) → length xs ≡ i → (text ++ join_with_byte 44 (map f (take i xs))) ++ 10 ∷ [] ≡ text ++ line_of (map f xs)
  joined_all text xs i all =
      append_assoc text (join_with_byte 44 (map f (take i xs))) (10 ∷ [])
      ∙ ap (λ ys. text ++ (join_with_byte 44 (map f ys) ++ 10 ∷ [])) (take_all i xs (omega (arith, all)))
