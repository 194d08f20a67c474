-- Answers of tests and of comparisons.
use Rattle.std.proofs.Common.{◌≡◌, ℕ, ◌<◌, true, false, refl}
use Rattle.std.specs.declared.cmp.Ordering.{Ordering}
use Rattle.std.specs.declared.cmp.Ordering.TheVariants.{Less, Equal, Greater}
use Rattle.std.specs.Ordering.{MatchOrdering, ordering_then, nat_cmp, is_lt}
use Rattle.std.proofs.lemmas.Cmp.{ranked}

pub true≢false : true ≡ false → ⊥
true≢false e = cc

pub is_Less : (o : Ordering) → is_lt o ≡ true → o ≡ Less
is_Less Less e = refl
is_Less Equal e = cc
is_Less Greater e = cc

pub ordering_then-assoc : (a b c : Ordering) → ordering_then (ordering_then a b) c ≡ ordering_then a (ordering_then b c)
ordering_then-assoc Less b c = refl
ordering_then-assoc Equal b c = refl
ordering_then-assoc Greater b c = refl

equal_numbers : (x y : ℕ) (o : Ordering) → MatchOrdering o (x < y) (x ≡ y) (y < x) → o ≡ Equal → x ≡ y
equal_numbers x y Less h e = cc
equal_numbers x y Equal h e = h
equal_numbers x y Greater h e = cc

-- numbers that compare as equal are one
pub numbers_tie : (x y : ℕ) → nat_cmp x y ≡ Equal → x ≡ y
numbers_tie x y e = equal_numbers x y (nat_cmp x y) (ranked x y (nat_cmp x y) refl) e
