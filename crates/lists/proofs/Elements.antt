-- Elements of lists: at a place, beside those of another list, and among those that others make.
use Rattle.std.proofs.Common.{◌≡◌, ℕ, zero, suc, ◌+◌, ◌<◌, ◌≤◌, List, [], ◌∷◌, ◌++◌, length, drop, get_or, refl, sym, ap, ◌∙◌, subst, arith, length-set, get_or-set_same, ⊎_elim, Option, Some, None, Contains}
use Rattle.std.proofs.Common.{◌⊎◌, inl, inr}
use Rattle.std.specs.Prelude.{slice_get, slice_set, filter_map, flat_map}
use Rattle.std.specs.List.{AllByRecursion, AllZip, enumerate_from, range_with_len, cons_option}
use Rattle.std.proofs.lemmas.Bool.{cases_lt}
use Rattle.std.proofs.lemmas.List.{drop_more, drop_all}
use Rattle.std.proofs.lemmas.Option.{slice_get-get_or}
use Rattle.std.proofs.lemmas.List.Elements.{Contains-append_left, Contains-append_right}

-- ---- elements

-- the element at a place within the list
pub element : {Y : Type 0} (ys : List Y) (k : ℕ) → k < length ys → (y : Y) × (slice_get ys k ≡ Some y)
element {Y = Y} [] k within = absurd (omega (arith, within))
element {Y = Y} (y ∷ ys) zero within = (y, refl)
element {Y = Y} (y ∷ ys) (suc k) within = element ys k (omega (arith, within))

-- P of the element at a place
pub each_at : {X : Type 0} (P : X → Type 0) (xs : List X) (k : ℕ) (x : X) → AllByRecursion P xs → slice_get xs k ≡ Some x → P x
each_at P [] k x all is = cc
each_at P (y ∷ ys) zero x all is =
    let same : y ≡ x = cc in
    subst P same all.0
each_at P (y ∷ ys) (suc k) x all is = each_at P ys k x all.1 is

-- P of the element at a place, with its number
pub numbered_at : {X : Type 0} (P : ℕ × X → Type 0) (xs : List X) (a k : ℕ) (x : X) → AllByRecursion P (enumerate_from a xs) → slice_get xs k ≡ Some x → P (a + k, x)
numbered_at P [] a k x all is = cc
numbered_at P (y ∷ ys) a zero x all is =
    let same : y ≡ x = cc in
    let number : a ≡ a + zero = omega arith in
    subst P (λ i. (number i, same i)) all.0
numbered_at P (y ∷ ys) a (suc k) x all is =
    let number : a + 1 + k ≡ a + suc k = omega arith in
    subst (λ n. P (n, x)) number (numbered_at P ys (a + 1) k x all.1 is)

pub numbered_from : {X : Type 0} (P : ℕ × X → Type 0) (xs : List X) (a : ℕ) → ((k : ℕ) (x : X) → slice_get xs k ≡ Some x → P (a + k, x)) →
    AllByRecursion P (enumerate_from a xs)
numbered_from P [] a each = tt
numbered_from P (y ∷ ys) a each =
    let number : a + 0 ≡ a = omega arith in (
      subst (λ n. P (n, y)) number (each 0 y refl),
      numbered_from P ys (a + 1) (λ k x is.
          let later : a + suc k ≡ a + 1 + k = omega arith in
          subst (λ n. P (n, x)) later (each (suc k) x is)),
    )

pub get-set_same : {X : Type 0} (xs : List X) (k : ℕ) (y : X) → k < length xs → slice_get (slice_set xs k y) k ≡ Some y
get-set_same xs k y within =
    let still : k < length (slice_set xs k y) = omega (arith, within, length-set xs k y) in
    slice_get-get_or (slice_set xs k y) k y still ∙ ap Some (get_or-set_same xs k y y within)

pub get-set_other : {X : Type 0} (xs : List X) (k j : ℕ) (y : X) → (k ≡ j → ⊥) → slice_get (slice_set xs k y) j ≡ slice_get xs j
get-set_other [] k j y other = refl
get-set_other (x ∷ xs) zero zero y other = absurd (other refl)
get-set_other (x ∷ xs) zero (suc j) y other = refl
get-set_other (x ∷ xs) (suc k) zero y other = refl
get-set_other (x ∷ xs) (suc k) (suc j) y other = get-set_other xs k j y (λ same. other (ap suc same))

pub cons-parts : {X : Type 0} (x y : X) (xs ys : List X) → x ∷ xs ≡ y ∷ ys → (x ≡ y) × (xs ≡ ys)
cons-parts x y xs ys e = (cc, cc)

-- ---- conditions on each element

pub all-append : {X : Type 0} (P : X → Type 0) (xs ys : List X) → AllByRecursion P xs → AllByRecursion P ys → AllByRecursion P (xs ++ ys)
all-append P [] ys front back = back
all-append P (x ∷ xs) ys front back = (front.0, all-append P xs ys front.1 back)

pub range-below : (a k n : ℕ) → a + k ≤ n → AllByRecursion (λ j. j < n) (range_with_len a k)
range-below a zero n fits = tt
range-below a (suc k) n fits = (omega (arith, fits), range-below (a + 1) k n (omega (arith, fits)))

pub recursion_weaker : {X : Type 0} (P Q : X → Type 0) → ((x : X) → P x → Q x) → (xs : List X) → AllByRecursion P xs → AllByRecursion Q xs
recursion_weaker P Q h [] all = tt
recursion_weaker P Q h (x ∷ xs) all = (h x all.0, recursion_weaker P Q h xs all.1)

pub recursion_at : {X : Type 0} (P : X → Type 0) (xs : List X) (k : ℕ) (d : X) → AllByRecursion P xs → k < length xs → P (get_or xs k d)
recursion_at P [] k d all below = absurd (omega (arith, below))
recursion_at P (x ∷ xs) zero d all below = all.0
recursion_at P (x ∷ xs) (suc k) d all below = recursion_at P xs k d all.1 (omega (arith, below))

-- ---- two lists beside each other

pub zip-some : {X Y : Type 0} (R : X → Y → Type 0) (x : X) (xs : List X) (ys : List Y) (k : ℕ) → AllZip R (x ∷ xs) (drop k ys) → k < length ys
zip-some R x xs ys k all = ⊎_elim
    (λ (within : k < length ys). within)
    (λ (past : length ys ≤ k). absurd (subst (AllZip R (x ∷ xs)) (drop_all k ys past) all))
    (cases_lt k (length ys))

pub zip-none : {X Y : Type 0} (R : X → Y → Type 0) (ys : List Y) (k : ℕ) → AllZip R [] (drop k ys) → length ys ≤ k
zip-none R ys k all = ⊎_elim
    (λ (within : k < length ys).
    let found = element ys k within in
    absurd (subst (AllZip R []) (drop_more ys k found.0 within) all))
    (λ (past : length ys ≤ k). past)
    (cases_lt k (length ys))

-- ---- what is left from a place on

pub drop-at : {X : Type 0} (xs : List X) (i : ℕ) (x : X) → slice_get xs i ≡ Some x → drop i xs ≡ x ∷ drop (suc i) xs
drop-at [] i x here = cc
drop-at (y ∷ ys) zero x here = let same : y ≡ x = cc in ap (λ z. z ∷ ys) same
drop-at (y ∷ ys) (suc i) x here = drop-at ys i x here

-- what is left from a place on begins with the item there
pub drop_next : {X : Type 0} (xs : List X) (i : ℕ) (x : X) → slice_get xs i ≡ Some x → drop i xs ≡ x ∷ drop (i + 1) xs
drop_next xs i x here = let next : suc i ≡ i + 1 = omega arith in drop-at xs i x here ∙ ap (λ n. x ∷ drop n xs) next

-- ---- elements that others make

-- a member of a list is its head, or a member of its tail
pub head_or_tail : {X : Type 0} (x z : X) (xs : List X) → Contains (x ∷ xs) z → (x ≡ z) ⊎ Contains xs z
head_or_tail x z xs (zero, below, is) = inl is
head_or_tail x z xs (suc k, below, is) = inr (k, omega (arith, below), is)

pub contains-rest : {X : Type 0} (x y : X) (xs : List X) → Contains xs y → Contains (x ∷ xs) y
contains-rest x y xs c = (suc c.0, omega (arith, c.1), c.2)

pub contains-first : {X : Type 0} (x : X) (xs : List X) → Contains (x ∷ xs) x
contains-first x xs = (0, omega arith, refl)

pub contains-cons_option : {Y : Type 0} (o : Option Y) (ys : List Y) (y : Y) → Contains ys y → Contains (cons_option o ys) y
contains-cons_option None ys y c = c
contains-cons_option (Some z) ys y c = contains-rest z y ys c

pub contains-filter_map : {Y : Type 0} (h : ℕ → Option Y) (xs : List ℕ) (k i : ℕ) (y : Y) → k < length xs → get_or xs k i ≡ i → h i ≡ Some y → Contains (filter_map h xs) y
contains-filter_map h [] k i y below there is = absurd (omega (arith, below))
contains-filter_map h (x ∷ xs) zero i y below there is =
    subst (λ o. Contains (cons_option o (filter_map h xs)) y) (sym (ap h there ∙ is)) (contains-first y (filter_map h xs))
contains-filter_map h (x ∷ xs) (suc k) i y below there is =
    contains-cons_option (h x) (filter_map h xs) y (contains-filter_map h xs k i y (omega (arith, below)) there is)

pub contains-flat_map : {X Y : Type 0} (f : X → List Y) (xs : List X) (k : ℕ) (x : X) (y : Y) → k < length xs → get_or xs k x ≡ x → Contains (f x) y →
    Contains (flat_map f xs) y
contains-flat_map f [] k x y below is c = absurd (omega (arith, below))
contains-flat_map f (z ∷ zs) zero x y below is c = Contains-append_left (f z) (flat_map f zs) y (subst (λ w. Contains (f w) y) (sym is) c)
contains-flat_map f (z ∷ zs) (suc k) x y below is c = Contains-append_right (f z) (flat_map f zs) y (contains-flat_map f zs k x y (omega (arith, below)) is c)

pub zip-long : {X Y : Type 0} (R : X → Y → Type 0) (xs : List X) (ys : List Y) → AllZip R xs ys → length xs ≡ length ys
zip-long R [] [] all = refl
zip-long R [] (y ∷ ys) all = absurd all
zip-long R (x ∷ xs) [] all = absurd all
zip-long R (x ∷ xs) (y ∷ ys) all = ap suc (zip-long R xs ys all.1)

pub zip-at : {X Y : Type 0} (R : X → Y → Type 0) (xs : List X) (ys : List Y) (k : ℕ) (d : X) (e : Y) → AllZip R xs ys → k < length xs → R (get_or xs k d) (get_or ys k e)
zip-at R [] [] k d e all below = absurd (omega (arith, below))
zip-at R [] (y ∷ ys) k d e all below = absurd all
zip-at R (x ∷ xs) [] k d e all below = absurd all
zip-at R (x ∷ xs) (y ∷ ys) zero d e all below = all.0
zip-at R (x ∷ xs) (y ∷ ys) (suc k) d e all below = zip-at R xs ys k d e all.1 (omega (arith, below))

-- the item in the middle has its partner
pub zip-middle : {A B : Type 0} (R : A → B → Type 0) (xs : List A) (x : A) (ys : List A) (list : List B) → AllZip R (xs ++ x ∷ ys) list → (n : B) × R x n
zip-middle R [] x ys [] h = absurd h
zip-middle R [] x ys (n ∷ list) h = (n, h.0)
zip-middle R (y ∷ xs) x ys [] h = absurd h
zip-middle R (y ∷ xs) x ys (n ∷ list) h = zip-middle R xs x ys list h.1
