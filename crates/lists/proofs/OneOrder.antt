-- A list has one order by a total order in which no two of its elements tie.
use Rattle.std.proofs.Common.{◌≡◌, ◌+◌, ◌⊎◌, inl, inr, false, List, [], ◌∷◌, get_or, refl, sym, ap, ◌∙◌, arith}
use Rattle.std.specs.Prelude.{Contains}
use Rattle.std.specs.List.{IsDistinct}
use Rattle.std.specs.List.Sorted.{IsPermutation, IsSortedBy, IsStrictlySortedBy}
use Rattle.std.specs.Cmp.{IsTotalOrder}
use Rattle.std.specs.declared.cmp.Ordering.{Ordering}
use Rattle.std.specs.declared.cmp.Ordering.TheVariants.{Less, Equal, Greater}
use Rattle.std.specs.Ordering.{eq_by_cmp, is_eq, is_lt, ordering_reverse}
use Rattle.std.proofs.lemmas.List.Sorted.{Contains-permutation, IsPermutation-sym, length_permutation}
use Rattle.std.proofs.lemmas.Map.Keys.{IsDistinct-from_sorted, IsDistinct-IsPermutation, apart_from_distinct, sorted_from_all_adjacent, sorted_head, sorted_tail}
use Rattle.lists.proofs.Elements.{contains-first, contains-rest, head_or_tail, recursion_at}

tied : (o : Ordering) → is_lt o ≡ false → is_eq o ≡ false → ordering_reverse o ≡ Less
tied Less e f = cc
tied Equal e f = cc
tied Greater e f = refl

module _ {X : Type 0} {R : X → X → Ordering} (total : IsTotalOrder R) where
  not_both : (x y : X) → R x y ≡ Less → R y x ≡ Less → ⊥
  not_both x y p q = let e : Greater ≡ Less = sym (total.antisymm x y ∙ ap ordering_reverse q) ∙ p in cc

  -- what is in the tail comes after the head
  after_head : (x z : X) (xs : List X) → IsStrictlySortedBy R (x ∷ xs) → Contains xs z → R x z ≡ Less
  after_head x z xs sorted (k, below, is) = rw is at (recursion_at (λ y. R x y ≡ Less) xs k z (sorted_head R x xs sorted) below)

  one_head : (x y : X) (xs ys : List X) → IsStrictlySortedBy R (x ∷ xs) → IsStrictlySortedBy R (y ∷ ys) →
      (x ≡ y) ⊎ Contains xs y → (y ≡ x) ⊎ Contains ys x → x ≡ y
  one_head x y xs ys up up_too (inl e) q = e
  one_head x y xs ys up up_too (inr p) (inl e) = sym e
  one_head x y xs ys up up_too (inr p) (inr q) = absurd (not_both x y (after_head x y xs up p) (after_head y x ys up_too q))

  not_head : (x z : X) (xs ys : List X) → IsStrictlySortedBy R (x ∷ xs) → Contains xs z → (x ≡ z) ⊎ Contains ys z → Contains ys z
  not_head x z xs ys up there (inl e) = let less : R x x ≡ Less = rw (← e) at (after_head x z xs up there) in absurd (not_both x x less less)
  not_head x z xs ys up there (inr more) = more

  -- two lists in strict order with the same members are one
  one_order : (xs ys : List X) → IsStrictlySortedBy R xs → IsStrictlySortedBy R ys →
      ((z : X) → Contains xs z → Contains ys z) → ((z : X) → Contains ys z → Contains xs z) → xs ≡ ys
  one_order [] [] up up_too to from = refl
  one_order [] (y ∷ ys) up up_too to from = let there : Contains {X = X} [] y = from y (contains-first y ys) in absurd (omega (arith, there.1))
  one_order (x ∷ xs) [] up up_too to from = let there : Contains {X = X} [] x = to x (contains-first x xs) in absurd (omega (arith, there.1))
  one_order (x ∷ xs) (y ∷ ys) up up_too to from =
      let e : x ≡ y = one_head x y xs ys up up_too (head_or_tail x y xs (from y (contains-first y ys))) (head_or_tail y x ys (to x (contains-first x xs))) in
      let up_here : IsStrictlySortedBy R (x ∷ ys) = rw e up_too in
      let rest : xs ≡ ys = one_order xs ys (sorted_tail R x xs up) (sorted_tail R y ys up_too)
      (λ z there. not_head x z xs ys up there (rw (← e) at (head_or_tail y z ys (to z (contains-rest x z xs there)))))
      (λ z there. not_head x z ys xs up_here there (head_or_tail x z xs (from z (contains-rest y z ys there)))) in
      cc

  eq_flips : (x y : X) → eq_by_cmp R x y ≡ eq_by_cmp R y x
  eq_flips x y = ap is_eq (total.antisymm x y) ∙ same (R y x)
    where
      same : (o : Ordering) → is_eq (ordering_reverse o) ≡ is_eq o
      same Less = refl
      same Equal = refl
      same Greater = refl

  -- a sort finds the strict order, where there is one
  pub sorted_is : (xs ys : List X) → IsStrictlySortedBy R xs → IsPermutation xs ys → IsSortedBy (λ x y. is_lt (R x y)) ys → ys ≡ xs
  sorted_is [] [] up moved sorted = refl
  sorted_is [] (y ∷ ys) up moved sorted = absurd (omega (arith, length_permutation [] (y ∷ ys) moved))
  sorted_is (x ∷ xs) ys up moved sorted = one_order ys (x ∷ xs) strict up (λ z. Contains-permutation ys (x ∷ xs) z (IsPermutation-sym (x ∷ xs) ys moved)) (λ z. Contains-permutation (x ∷ xs) ys z moved)
    where
      distinct : IsDistinct (eq_by_cmp R) ys
      distinct = IsDistinct-IsPermutation (eq_by_cmp R) eq_flips (x ∷ xs) ys moved (IsDistinct-from_sorted R (x ∷ xs) up)

      strict : IsStrictlySortedBy R ys
      strict = sorted_from_all_adjacent total ys x (λ k below.
          total.antisymm (get_or ys k x) (get_or ys (k + 1) x)
          ∙ tied (R (get_or ys (k + 1) x) (get_or ys k x)) (sorted k x (omega arith) below)
          (eq_flips (get_or ys (k + 1) x) (get_or ys k x) ∙ apart_from_distinct (eq_by_cmp R) ys k (k + 1) x distinct (omega arith) below))
