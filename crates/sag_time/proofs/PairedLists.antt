-- Tests of two lists, place by place, and lists made of two.
use Rattle.std.proofs.Common.{◌≡◌, Bool, true, List, [], ◌∷◌, ◌&&◌, length, refl, ap, arith}
use Rattle.std.specs.List.{list_all}
use Rattle.std.specs.Cmp.Lexicographic.{pointwise}
use Rattle.std.proofs.lemmas.Bool.{and_parts, and_from, false≢true}
use Rattle.lists.specs.Zipped.{zip_with}

pub pointwise-itself : {X : Type 0} (p : X → X → Bool) → ((x : X) → p x x ≡ true) → (xs : List X) → pointwise p xs xs ≡ true
pointwise-itself p own [] = refl
pointwise-itself p own (x ∷ xs) = and_from (p x x) (pointwise p xs xs) (own x) (pointwise-itself p own xs)

pub pointwise-trans : {X : Type 0} (p : X → X → Bool) → ((x y z : X) → p x y ≡ true → p y z ≡ true → p x z ≡ true) → (xs ys zs : List X) →
    pointwise p xs ys ≡ true → pointwise p ys zs ≡ true → pointwise p xs zs ≡ true
pointwise-trans p step [] [] zs h k = k
pointwise-trans p step [] (y ∷ ys) zs h k = absurd (false≢true h)
pointwise-trans p step (x ∷ xs) [] zs h k = absurd (false≢true h)
pointwise-trans p step (x ∷ xs) (y ∷ ys) [] h k = absurd (false≢true k)
pointwise-trans p step (x ∷ xs) (y ∷ ys) (z ∷ zs) h k =
    let s = and_parts (p x y) (pointwise p xs ys) h in
    let t = and_parts (p y z) (pointwise p ys zs) k in
    and_from (p x z) (pointwise p xs zs) (step x y z s.0 t.0) (pointwise-trans p step xs ys zs s.1 t.1)

pub pointwise-back : {X : Type 0} (p : X → X → Bool) (xs ys : List X) → pointwise (λ x y. p y x) xs ys ≡ pointwise p ys xs
pointwise-back p [] [] = refl
pointwise-back p [] (y ∷ ys) = refl
pointwise-back p (x ∷ xs) [] = refl
pointwise-back p (x ∷ xs) (y ∷ ys) = ap (λ b. p y x && b) (pointwise-back p xs ys)

module _ {X : Type 0} (f : X → X → X) (p : X → X → Bool) where
  -- what f makes of two elements stands to the first of them as p says
  pub pointwise-zip_left : ((x y : X) → p (f x y) x ≡ true) → (xs ys : List X) → length xs ≡ length ys → pointwise p (zip_with f xs ys) xs ≡ true
  pointwise-zip_left each [] ys long = refl
  pointwise-zip_left each (x ∷ xs) [] long = absurd (omega (arith, long))
  pointwise-zip_left each (x ∷ xs) (y ∷ ys) long =
      and_from (p (f x y) x) (pointwise p (zip_with f xs ys) xs) (each x y) (pointwise-zip_left each xs ys (omega (arith, long)))

  -- and the second
  pub pointwise-zip_right : ((x y : X) → p (f x y) y ≡ true) → (xs ys : List X) → length xs ≡ length ys → pointwise p (zip_with f xs ys) ys ≡ true
  pointwise-zip_right each [] [] long = refl
  pointwise-zip_right each [] (y ∷ ys) long = absurd (omega (arith, long))
  pointwise-zip_right each (x ∷ xs) [] long = absurd (omega (arith, long))
  pointwise-zip_right each (x ∷ xs) (y ∷ ys) long =
      and_from (p (f x y) y) (pointwise p (zip_with f xs ys) ys) (each x y) (pointwise-zip_right each xs ys (omega (arith, long)))

  -- what stands so to both lists stands so to the list that f makes
  pub pointwise-zip : ((z x y : X) → p z x ≡ true → p z y ≡ true → p z (f x y) ≡ true) → (zs xs ys : List X) →
      pointwise p zs xs ≡ true → pointwise p zs ys ≡ true → pointwise p zs (zip_with f xs ys) ≡ true
  pointwise-zip each [] [] ys h k = refl
  pointwise-zip each [] (x ∷ xs) ys h k = absurd (false≢true h)
  pointwise-zip each (z ∷ zs) [] ys h k = absurd (false≢true h)
  pointwise-zip each (z ∷ zs) (x ∷ xs) [] h k = absurd (false≢true k)
  pointwise-zip each (z ∷ zs) (x ∷ xs) (y ∷ ys) h k =
      let s = and_parts (p z x) (pointwise p zs xs) h in
      let t = and_parts (p z y) (pointwise p zs ys) k in
      and_from (p z (f x y)) (pointwise p zs (zip_with f xs ys)) (each z x y s.0 t.0) (pointwise-zip each zs xs ys s.1 t.1)

pub list_all-zip : {X Y Z : Type 0} (f : X → Y → Z) (p : X → Bool) (q : Y → Bool) (r : Z → Bool) →
    ((x : X) (y : Y) → p x ≡ true → q y ≡ true → r (f x y) ≡ true) → (xs : List X) (ys : List Y) →
    list_all p xs ≡ true → list_all q ys ≡ true → list_all r (zip_with f xs ys) ≡ true
list_all-zip f p q r each [] ys h k = refl
list_all-zip f p q r each (x ∷ xs) [] h k = refl
list_all-zip f p q r each (x ∷ xs) (y ∷ ys) h k =
    let s = and_parts (p x) (list_all p xs) h in
    let t = and_parts (q y) (list_all q ys) k in
    and_from (r (f x y)) (list_all r (zip_with f xs ys)) (each x y s.0 t.0) (list_all-zip f p q r each xs ys s.1 t.1)
