-- The last jobs that a line gives, number by number.
--     past_last xs      one more than the last number, and 0 where there is none
use Rattle.std.proofs.Common.{◌≡◌, ℕ, zero, suc, ◌+◌, ◌<◌, ◌≤◌, Bool, true, false, cond, List, [], ◌∷◌, ◌++◌, get_or, length, take, refl, ap, sym, ◌∙◌, subst, arith}
use Rattle.std.specs.Prelude.{◌==◌, nat_lt, slice_get}
use Rattle.std.specs.List.{list_all}
use Rattle.std.proofs.lemmas.Bool.{and_parts, and_from, le-ltb, lt-ltb, ltb-true, ne_eqb}
use Rattle.job_sets.specs.Subset.{Subset, is_rising, with_number}

-- one more than the last number, and 0 where there is none
abbrev pub past_last : List ℕ → ℕ
past_last [] = 0
past_last (x ∷ []) = x + 1
past_last (x ∷ y ∷ ys) = past_last (y ∷ ys)

pub past_last-more : (xs : List ℕ) (x : ℕ) → past_last (xs ++ x ∷ []) ≡ x + 1
past_last-more [] x = refl
past_last-more (y ∷ []) x = refl
past_last-more (y ∷ z ∷ zs) x = past_last-more (z ∷ zs) x

-- in a rising list each number is above those before it
pub above-before : (xs : List ℕ) (i : ℕ) → i < length xs → is_rising xs ≡ true → past_last (take i xs) ≤ get_or xs i 0
above-before [] i lt rising = absurd (omega arith)
above-before (x ∷ xs) zero lt rising = omega arith
above-before (x ∷ []) (suc k) lt rising = absurd (omega arith)
above-before (x ∷ y ∷ ys) (suc zero) lt rising =
    let parts = and_parts (list_all (nat_lt x) (y ∷ ys)) (is_rising (y ∷ ys)) rising in
    let first : x < y = ltb-true x y (and_parts (nat_lt x y) (list_all (nat_lt x) ys) parts.0).0 in
    omega arith
above-before (x ∷ y ∷ ys) (suc (suc k)) lt rising =
    let parts = and_parts (list_all (nat_lt x) (y ∷ ys)) (is_rising (y ∷ ys)) rising in
    above-before (y ∷ ys) (suc k) (omega arith) parts.1

-- a number above all others comes last
pub with_number-above : (x least : ℕ) (xs : List ℕ) → list_all (λ k. nat_lt k least) xs ≡ true → least ≤ x → with_number x xs ≡ xs ++ x ∷ []
with_number-above x least [] below le = refl
with_number-above x least (k ∷ ks) below le =
    let parts = and_parts (nat_lt k least) (list_all (λ k. nat_lt k least) ks) below in
    let lt : k < least = ltb-true k least parts.0 in
    let later : nat_lt x k ≡ false = le-ltb x k (omega arith) in
    let other : (x == k) ≡ false = ne_eqb x k (λ e. omega arith) in
    rw (later, other) (ap (λ ys. k ∷ ys) (with_number-above x least ks parts.1 le))

pub below-more : (x least : ℕ) (xs : List ℕ) → list_all (λ k. nat_lt k least) xs ≡ true → least ≤ x → list_all (λ k. nat_lt k (x + 1)) (xs ++ x ∷ []) ≡ true
below-more x least [] below le = and_from (nat_lt x (x + 1)) true (lt-ltb x (x + 1) (omega arith)) refl
below-more x least (k ∷ ks) below le =
    let parts = and_parts (nat_lt k least) (list_all (λ k. nat_lt k least) ks) below in
    let lt : k < least = ltb-true k least parts.0 in
    and_from (nat_lt k (x + 1)) (list_all (λ k. nat_lt k (x + 1)) (ks ++ x ∷ [])) (lt-ltb k (x + 1) (omega arith)) (below-more x least ks parts.1 le)

pub subset-is : (s : Subset) (size : ℕ) (xs : List ℕ) → s.size ≡ size → s.members ≡ xs → s ≡ record { size = size; members = xs }
subset-is s size xs same are = rw (← same, ← are) refl

-- a set of the numbers so far, with one more
pub with-more : (list : List ℕ) (i x size least : ℕ) (old new : Subset) → take (i + 1) list ≡ take i list ++ x ∷ [] → old ≡ record { size = size; members = take i list } →
    list_all (λ k. nat_lt k least) (take i list) ≡ true → least ≤ x → new.size ≡ old.size → new.members ≡ with_number x old.members →
    new ≡ record { size = size; members = take (i + 1) list }
with-more list i x size least old new more is below le same are =
    subset-is new size (take (i + 1) list) (same ∙ ap (λ (s : Subset). s.size) is)
    (are ∙ ap (λ (s : Subset). with_number x s.members) is ∙ with_number-above x least (take i list) below le ∙ sym more)

pub all-below : (xs : List ℕ) (size i : ℕ) → i < length xs → list_all (λ j. nat_lt j size) xs ≡ true → get_or xs i 0 < size
all-below [] size i lt all = absurd (omega arith)
all-below (x ∷ xs) size zero lt all = ltb-true x size (and_parts (nat_lt x size) (list_all (λ j. nat_lt j size) xs) all).0
all-below (x ∷ xs) size (suc i) lt all = all-below xs size i (omega arith) (and_parts (nat_lt x size) (list_all (λ j. nat_lt j size) xs) all).1

pub take-whole : (xs : List ℕ) (n : ℕ) → length xs ≤ n → take n xs ≡ xs
take-whole [] zero le = refl
take-whole [] (suc n) le = refl
take-whole (x ∷ xs) zero le = absurd (omega arith)
take-whole (x ∷ xs) (suc n) le = ap (λ ys. x ∷ ys) (take-whole xs n (omega arith))
