-- What a function makes of two lists of one length, place by place.
use Rattle.std.proofs.Common.{◌≡◌, ℕ, zero, suc, ◌<◌, List, [], ◌∷◌, Some, length, get_or, refl, ap, arith}
use Rattle.std.specs.Prelude.{slice_get}
use Rattle.lists.specs.Zipped.{zip_with}

-- what stands at a place of both
pub zipped_at : {A B C : Type 0} (f : A → B → C) (xs : List A) (ys : List B) (j : ℕ) (y : B) (d : A) → j < length xs → slice_get ys j ≡ Some y →
    slice_get (zip_with f xs ys) j ≡ Some (f (get_or xs j d) y)
zipped_at f [] ys j y d within is = absurd (omega (arith, within))
zipped_at f (x ∷ xs) [] j y d within is = cc
zipped_at {B = B} f (x ∷ xs) (z ∷ ys) zero y d within is =
    let same : z ≡ y = cc in
    ap (λ (v : B). Some (f x v)) same
zipped_at f (x ∷ xs) (z ∷ ys) (suc j) y d within is = zipped_at f xs ys j y d (omega (arith, within)) is

-- there is one for each place
pub length-zipped : {A B C : Type 0} (f : A → B → C) (xs : List A) (ys : List B) → length ys ≡ length xs → length (zip_with f xs ys) ≡ length xs
length-zipped f [] ys long = refl
length-zipped f (x ∷ xs) [] long = absurd (omega (arith, long))
length-zipped f (x ∷ xs) (y ∷ ys) long = ap suc (length-zipped f xs ys (omega (arith, long)))
