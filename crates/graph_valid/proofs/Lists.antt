-- Conditions on each element of a list, and of lists that are made of others.
use Rattle.std.proofs.Common.{◌≡◌, ℕ, suc, ◌+◌, List, [], ◌∷◌, map, sym, ap, ◌∙◌, arith, Option, Some, None}
use Rattle.std.specs.Prelude.{slice_get, filter_map, flat_map, IfSome}
use Rattle.std.specs.List.{AllByRecursion, AllZip, enumerate_from, cons_option}
use Rattle.lists.proofs.Elements.{all-append}

pub all-both : {X : Type 0} (P Q : X → Type 0) (xs : List X) → AllByRecursion P xs → AllByRecursion Q xs → AllByRecursion (λ x. P x × Q x) xs
all-both P Q [] all more = tt
all-both P Q (x ∷ xs) all more = ((all.0, more.0), all-both P Q xs all.1 more.1)

pub all-map : {X Y : Type 0} (P : Y → Type 0) (f : X → Y) (xs : List X) → AllByRecursion (λ x. P (f x)) xs → AllByRecursion P (map f xs)
all-map P f [] all = tt
all-map P f (x ∷ xs) all = (all.0, all-map P f xs all.1)

pub all-from_map : {X Y : Type 0} (P : Y → Type 0) (f : X → Y) (xs : List X) → AllByRecursion P (map f xs) → AllByRecursion (λ x. P (f x)) xs
all-from_map P f [] all = tt
all-from_map P f (x ∷ xs) all = (all.0, all-from_map P f xs all.1)

pub all-flat_map : {X Y : Type 0} (P : Y → Type 0) (f : X → List Y) (xs : List X) → AllByRecursion (λ x. AllByRecursion P (f x)) xs → AllByRecursion P (flat_map f xs)
all-flat_map P f [] all = tt
all-flat_map P f (x ∷ xs) all = all-append P (f x) (flat_map f xs) all.0 (all-flat_map P f xs all.1)

pub all-filter_map : {X Y : Type 0} (P : Y → Type 0) (h : X → Option Y) → ((x : X) → IfSome (h x) P) → (xs : List X) → AllByRecursion P (filter_map h xs)
all-filter_map P h each [] = tt
all-filter_map {Y = Y} P h each (x ∷ xs) = at (h x) (each x) (all-filter_map P h each xs)
  where
    at : (o : Option Y) → IfSome o P → AllByRecursion P (filter_map h xs) → AllByRecursion P (cons_option o (filter_map h xs))
    at None one rest = rest
    at (Some y) one rest = (one, rest)

-- each element stands at its number
pub all-enumerated : {X : Type 0} (whole xs : List X) (a : ℕ) → ((k : ℕ) → slice_get xs k ≡ slice_get whole (a + k)) →
    AllByRecursion (λ e. slice_get whole e.0 ≡ Some e.1) (enumerate_from a xs)
all-enumerated whole [] a each = tt
all-enumerated whole (x ∷ xs) a each =
    let first : a ≡ a + 0 = omega arith in (
      ap (slice_get whole) first ∙ sym (each 0),
      all-enumerated whole xs (a + 1) (λ k. let next : a + suc k ≡ a + 1 + k = omega arith in each (suc k) ∙ ap (slice_get whole) next),
    )

pub all-numbered : {X : Type 0} (xs : List X) → AllByRecursion (λ e. slice_get xs e.0 ≡ Some e.1) (enumerate_from 0 xs)
all-numbered xs = all-enumerated xs xs 0 (λ k. let same : k ≡ 0 + k = omega arith in ap (slice_get xs) same)

pub zip-map_left : {X Y Z : Type 0} (R : Y → Z → Type 0) (f : X → Y) (xs : List X) (zs : List Z) → AllZip (λ x z. R (f x) z) xs zs → AllZip R (map f xs) zs
zip-map_left R f [] [] all = tt
zip-map_left R f [] (z ∷ zs) all = absurd all
zip-map_left R f (x ∷ xs) [] all = absurd all
zip-map_left R f (x ∷ xs) (z ∷ zs) all = (all.0, zip-map_left R f xs zs all.1)
