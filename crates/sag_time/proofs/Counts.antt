-- How many elements of a list pass a test: what one more adds.
use Rattle.std.proofs.Common.{◌≡◌, ℕ, ◌+◌, ◌≤◌, Bool, true, false, cond, List, ◌∷◌, ap, arith}
use Rattle.std.specs.List.{count_by}
use Rattle.std.proofs.lemmas.Bool.{false≢true}
use Rattle.std.proofs.lemmas.List.Sums.{sum_by-cons}

-- what one element adds to a count
abbrev pub one_if : Bool → ℕ
one_if b = cond b 1 0

pub count_by-cons : {X : Type 0} (p : X → Bool) (x : X) (xs : List X) → count_by p (x ∷ xs) ≡ one_if (p x) + count_by p xs
count_by-cons p x xs = sum_by-cons (λ y. one_if (p y)) x xs

pub one_if-le : (b : Bool) → one_if b ≤ 1
one_if-le true = omega arith
one_if-le false = omega arith

pub one_if-true : (b : Bool) → b ≡ true → one_if b ≡ 1
one_if-true b e = ap one_if e

pub one_if-false : (b : Bool) → b ≡ false → one_if b ≡ 0
one_if-false b e = ap one_if e

pub one_if-mono : (a b : Bool) → (a ≡ true → b ≡ true) → one_if a ≤ one_if b
one_if-mono false b h = omega arith
one_if-mono true true h = omega arith
one_if-mono true false h = absurd (false≢true (h (λ i. true)))
