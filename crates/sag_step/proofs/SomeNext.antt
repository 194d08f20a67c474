-- A state that has an undispatched job has a next state.
use Rattle.std.proofs.Common.{◌≡◌, ℕ, suc, ◌+◌, ◌<◌, ◌≤◌, true, false, List, [], ◌∷◌, length, refl, arith, inl, inr}
use Rattle.std.specs.Prelude.{nat_le, nat_lt, ◌==◌, slice_index}
use Rattle.std.specs.List.{list_all}
use Rattle.std.specs.Cmp.Lexicographic.{pointwise}
use Rattle.std.proofs.lemmas.Bool.{and_parts, and_from, or_from, leb-true, le-leb, ltb-true, lt-ltb, ne_eqb, cases_lt, false≢true}
use Rattle.job_sets.specs.Subset.{is_member, is_rising}
use Rattle.start_windows.specs.Laws as window_law
use Rattle.sag_step.specs.State.{first_core}
use Rattle.sag_step.specs.Laws as law

above-outside : (j : ℕ) (ks : List ℕ) → list_all (nat_lt j) ks ≡ true → is_member j ks ≡ false
above-outside j [] above = refl
above-outside j (k ∷ ks) above =
    let parts = and_parts (nat_lt j k) (list_all (nat_lt j) ks) above in
    let less : j < k = ltb-true j k parts.0 in
    or_from (k == j) (is_member j ks) (ne_eqb k j (λ same. omega (arith, less, same))) (above-outside j ks parts.1)

list_all-from : (j k : ℕ) (xs : List ℕ) → j ≤ k → list_all (nat_lt k) xs ≡ true → list_all (nat_lt j) xs ≡ true
list_all-from j k [] less all = refl
list_all-from j k (x ∷ xs) less all =
    let parts = and_parts (nat_lt k x) (list_all (nat_lt k) xs) all in
    and_from (nat_lt j x) (list_all (nat_lt j) xs) (lt-ltb j x (omega (arith, less, ltb-true k x parts.0))) (list_all-from j k xs less parts.1)

-- of the numbers from a up to n, one is not in a rising list of fewer
missing_from : (a n : ℕ) (ks : List ℕ) → is_rising ks ≡ true → list_all (nat_le a) ks ≡ true → a + length ks < n → (j : ℕ) × (a ≤ j) × (j < n) × (is_member j ks ≡ false)
missing_from a n [] rising from fewer = (a, omega arith, omega (arith, fewer), refl)
missing_from a n (k ∷ ks) rising from fewer =
    let up = and_parts (list_all (nat_lt k) ks) (is_rising ks) rising in
    let low : a ≤ k = leb-true a k (and_parts (nat_le a k) (list_all (nat_le a) ks) from).0 in
    elim (cases_lt a k) [
      | inl less ↦
          (a, omega arith, omega (arith, fewer), above-outside a (k ∷ ks) (and_from (nat_lt a k) (list_all (nat_lt a) ks) (lt-ltb a k less) (list_all-from a k ks low up.0)))
      | inr past ↦
          let rest = missing_from (suc a) n ks up.1 (list_all-from a k ks low up.0) (omega (arith, fewer)) in
          let after : suc a ≤ rest.0 = rest.1 in
          (rest.0, omega (arith, after), rest.2, or_from (k == rest.0) (is_member rest.0 ks) (ne_eqb k rest.0 (λ same. omega (arith, same, after, past, low))) rest.3)
    ]

from_zero : (ks : List ℕ) → list_all (nat_le 0) ks ≡ true
from_zero [] = refl
from_zero (k ∷ ks) = and_from (nat_le 0 k) (list_all (nat_le 0) ks) (le-leb 0 k (omega arith)) (from_zero ks)

first-le : (low high : List ℕ) → pointwise nat_le low high ≡ true → slice_index low 0 ≤ slice_index high 0
first-le [] [] order = omega arith
first-le [] (y ∷ ys) order = absurd (false≢true order)
first-le (x ∷ xs) [] order = absurd (false≢true order)
first-le (x ∷ xs) (y ∷ ys) order = leb-true x y (and_parts (nat_le x y) (pointwise nat_le xs ys) order).0

pub some_step_is_left : window_law.SomeJobIsEligible → law.SomeStepIsLeft
some_step_is_left by_windows table m state is_table is_state fewer =
    let out = missing_from 0 (length table.jobs) state.set.members is_state.set.rising (from_zero state.set.members) (omega (arith, fewer)) in
    by_windows table state.set.members state.ends (first_core state) is_table
    (first-le state.low state.high is_state.shape.in_order) is_state.shape.spans out.0 out.2 out.3
