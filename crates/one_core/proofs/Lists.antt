-- Lists: what is found in them.
use Rattle.std.proofs.Common.{◌≡◌, ℕ, ◌⊎◌, inl, inr, Bool, true, false, List, [], ◌∷◌, ◌++◌, map, Some, refl, sym, ap, ◌∙◌, ⊎_elim}
use Rattle.std.specs.Prelude.{filter, slice_get, ◌&&◌, ◌||◌}
use Rattle.std.specs.List.{AllByRecursion, list_any, find}
use Rattle.std.proofs.lemmas.Bool.{and_from, or_cases, or_left, or_right, cond-true, cond-false, cases_Bool, false≢true}
use Rattle.std.proofs.lemmas.Option.{none-some, same_Some}

-- at one place there is one element
pub one-at : {X : Type 0} (xs : List X) (i j : ℕ) (x y : X) → slice_get xs i ≡ Some x → i ≡ j → slice_get xs j ≡ Some y → x ≡ y
one-at xs i j x y at same there = same_Some x y (sym at ∙ ap (slice_get xs) same ∙ there)

-- where some element passes, the first that does is found
pub record IsFound {X : Type 0} (P : X → Type 0) (p : X → Bool) (xs : List X) : Type 0 where
  pub value : X
  pub found : find p xs ≡ Some value
  pub passes : p value ≡ true
  pub is : P value

pub found_where : {X : Type 0} (P : X → Type 0) (p : X → Bool) (xs : List X) → list_any p xs ≡ true → AllByRecursion P xs → IsFound P p xs
found_where P p [] some all = absurd (false≢true some)
found_where P p (x ∷ xs) some all = by (cases_Bool (p x)) (or_cases (p x) (list_any p xs) some) (λ any. found_where P p xs any all.1)
  where
    later : p x ≡ false → IsFound P p xs → IsFound P p (x ∷ xs)
    later fails r = record { value = r.value; found = cond-false (p x) (Some x) (find p xs) fails ∙ r.found; passes = r.passes; is = r.is }

    by : (p x ≡ true) ⊎ (p x ≡ false) → (p x ≡ true) ⊎ (list_any p xs ≡ true) → (list_any p xs ≡ true → IsFound P p xs) → IsFound P p (x ∷ xs)
    by (inl here) any rest = record { value = x; found = cond-true (p x) (Some x) (find p xs) here; passes = here; is = all.0 }
    by (inr fails) (inl here) rest = absurd (false≢true (sym fails ∙ here))
    by (inr fails) (inr any) rest = later fails (rest any)

-- what is found is an element
pub any-found : {X : Type 0} (p q : X → Bool) (xs : List X) (x : X) → find p xs ≡ Some x → q x ≡ true → list_any q xs ≡ true
any-found p q [] x e passes = absurd (none-some x e)
any-found p q (y ∷ ys) x e passes = by (cases_Bool (p y)) (λ later. any-found p q ys x later passes)
  where
    by : (p y ≡ true) ⊎ (p y ≡ false) → (find p ys ≡ Some x → list_any q ys ≡ true) → list_any q (y ∷ ys) ≡ true
    by (inl here) rest = or_left (q y) (list_any q ys) (ap q (same_Some y x (sym (cond-true (p y) (Some y) (find p ys) here) ∙ e)) ∙ passes)
    by (inr fails) rest = or_right (q y) (list_any q ys) (rest (sym (cond-false (p y) (Some y) (find p ys) fails) ∙ e))

pub any-append_left : {X : Type 0} (p : X → Bool) (xs ys : List X) → list_any p xs ≡ true → list_any p (xs ++ ys) ≡ true
any-append_left p [] ys some = absurd (false≢true some)
any-append_left p (x ∷ xs) ys some = ⊎_elim
    (λ (here : p x ≡ true). or_left (p x) (list_any p (xs ++ ys)) here)
    (λ (later : list_any p xs ≡ true). or_right (p x) (list_any p (xs ++ ys)) (any-append_left p xs ys later))
    (or_cases (p x) (list_any p xs) some)

pub any-append_right : {X : Type 0} (p : X → Bool) (xs ys : List X) → list_any p ys ≡ true → list_any p (xs ++ ys) ≡ true
any-append_right p [] ys some = some
any-append_right p (x ∷ xs) ys some = or_right (p x) (list_any p (xs ++ ys)) (any-append_right p xs ys some)

pub any-append_cases : {X : Type 0} (p : X → Bool) (xs ys : List X) → list_any p (xs ++ ys) ≡ true → (list_any p xs ≡ true) ⊎ (list_any p ys ≡ true)
any-append_cases p [] ys some = inr some
any-append_cases p (x ∷ xs) ys some = ⊎_elim
    (λ (here : p x ≡ true). inl (or_left (p x) (list_any p xs) here))
    (λ (later : list_any p (xs ++ ys) ≡ true). ⊎_elim
    (λ (one : list_any p xs ≡ true). inl (or_right (p x) (list_any p xs) one))
    (λ (other : list_any p ys ≡ true). inr other)
    (any-append_cases p xs ys later))
    (or_cases (p x) (list_any p (xs ++ ys)) some)

pub any-map : {X Y : Type 0} (f : X → Y) (p : Y → Bool) (xs : List X) → list_any p (map f xs) ≡ list_any (λ x. p (f x)) xs
any-map f p [] = refl
any-map f p (x ∷ xs) = ap (λ b. p (f x) || b) (any-map f p xs)

pub any-filter : {X : Type 0} (p q : X → Bool) (xs : List X) → list_any q (filter p xs) ≡ true → list_any (λ x. p x && q x) xs ≡ true
any-filter p q [] some = some
any-filter p q (x ∷ xs) some = by (cases_Bool (p x)) (any-filter p q xs)
  where
    by : (p x ≡ true) ⊎ (p x ≡ false) → (list_any q (filter p xs) ≡ true → list_any (λ y. p y && q y) xs ≡ true) → list_any (λ y. p y && q y) (x ∷ xs) ≡ true
    by (inl here) rest = ⊎_elim
        (λ (now : q x ≡ true). or_left (p x && q x) (list_any (λ y. p y && q y) xs) (and_from (p x) (q x) here now))
        (λ (later : list_any q (filter p xs) ≡ true). or_right (p x && q x) (list_any (λ y. p y && q y) xs) (rest later))
        (or_cases (q x) (list_any q (filter p xs)) (ap (list_any q) (sym (cond-true (p x) (x ∷ filter p xs) (filter p xs) here)) ∙ some))
    by (inr fails) rest = or_right (p x && q x) (list_any (λ y. p y && q y) xs) (rest (ap (list_any q) (sym (cond-false (p x) (x ∷ filter p xs) (filter p xs) fails)) ∙ some))
