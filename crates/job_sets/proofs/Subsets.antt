-- Lists with a number left out, what two lists have in common, and sums of patterns.
use Rattle.std.proofs.Common.{◌≡◌, ℕ, ◌+◌, ◌-◌, ◌%◌, ◌^◌, ◌<◌, Bool, true, false, cond, List, [], ◌∷◌, length, filter, not, refl, ap, sym, ◌∙◌, arith, ◌⊎◌, inl, inr, subst}
use Rattle.std.specs.Prelude.{nat_lt, ◌==◌, ◌||◌, ◌&&◌}
use Rattle.std.specs.List.{list_all}
use Rattle.std.proofs.lemmas.Bool.{and_parts, and_from, or_parts, eqb-true, eq-eqb, ne_eqb, cases_eq, false≢true, false_from_ne_true}
use Rattle.job_sets.specs.Subset.{is_member, is_rising, with_number, without, is_within}
use Rattle.job_sets.specs.Words.{pattern, pattern_sum}
use Rattle.job_sets.proofs.Members.{is_member-from_filter, is_member-filter, list_all-member, list_all-from_members}
use Rattle.job_sets.proofs.Filters.{is_member-of_filter, is_rising-filter, list_all-filter}
use Rattle.job_sets.proofs.Additions.{same_members, is_rising-with_number, is_member-with_number, length-with_number}

pub both_true : (p m : Bool) → (f : Bool) → (p ≡ true → m ≡ true → f ≡ true) → (f ≡ true → (p ≡ true) × (m ≡ true)) → f ≡ (p && m)
both_true true true f to from = to refl refl
both_true true false f to from = false_from_ne_true f (λ h. false≢true (from h).1)
both_true false m f to from = false_from_ne_true f (λ h. false≢true (from h).0)

-- ---- one fewer

pub without-absent : (j : ℕ) (xs : List ℕ) → is_rising xs ≡ true → is_member j xs ≡ false → without j xs ≡ xs
without-absent j xs rising absent = same_members (without j xs) xs (is_rising-filter (λ k. not (j == k)) xs rising) rising
    (λ k. is_member-of_filter (λ i. not (j == i)) xs k ∙ at k (cases_eq j k))
  where
    at : (k : ℕ) → (j ≡ k) ⊎ (j ≡ k → ⊥) → (not (j == k) && is_member k xs) ≡ is_member k xs
    at k (inl same) = ap (λ b. not b && is_member k xs) (eq-eqb j k same) ∙ sym (subst (λ i. is_member i xs ≡ false) same absent)
    at k (inr other) = ap (λ b. not b && is_member k xs) (ne_eqb j k other)

is_member-left : (j : ℕ) (xs : List ℕ) → is_member j (without j xs) ≡ false
is_member-left j xs = is_member-of_filter (λ i. not (j == i)) xs j ∙ ap (λ b. not b && is_member j xs) (eq-eqb j j refl)

-- the number put back gives the list
put_back : (j : ℕ) (xs : List ℕ) → is_rising xs ≡ true → is_member j xs ≡ true → with_number j (without j xs) ≡ xs
put_back j xs rising there = same_members (with_number j (without j xs)) xs (is_rising-with_number j (without j xs) (is_rising-filter (λ k. not (j == k)) xs rising)) rising
    (λ k. is_member-with_number k j (without j xs) ∙ ap (λ b. (j == k) || b) (is_member-of_filter (λ i. not (j == i)) xs k) ∙ at k (cases_eq j k))
  where
    at : (k : ℕ) → (j ≡ k) ⊎ (j ≡ k → ⊥) → ((j == k) || (not (j == k) && is_member k xs)) ≡ is_member k xs
    at k (inl same) = ap (λ b. b || (not b && is_member k xs)) (eq-eqb j k same) ∙ sym (subst (λ i. is_member i xs ≡ true) same there)
    at k (inr other) = ap (λ b. b || (not b && is_member k xs)) (ne_eqb j k other)

pub length-without : (j : ℕ) (xs : List ℕ) → is_rising xs ≡ true → is_member j xs ≡ true → length (without j xs) + 1 ≡ length xs
length-without j xs rising there = sym (length-with_number j (without j xs) (is_member-left j xs)) ∙ ap length (put_back j xs rising there)

-- ---- sums of patterns

swap_sum : (a b m : ℕ) → (a + (b + m) % 2 ^ 64) % 2 ^ 64 ≡ (b + (a + m) % 2 ^ 64) % 2 ^ 64
swap_sum a b m = omega arith

pub pattern_sum-with_number : (j : ℕ) (xs : List ℕ) → is_member j xs ≡ false → pattern_sum (with_number j xs) ≡ (pattern j + pattern_sum xs) % 2 ^ 64
pattern_sum-with_number j [] absent = refl
pattern_sum-with_number j (k ∷ ks) absent = at (nat_lt j k) (j == k) refl (pattern_sum-with_number j ks)
  where
    parts : ((k == j) ≡ false) × (is_member j ks ≡ false)
    parts = or_parts (k == j) (is_member j ks) absent

    at : (b c : Bool) → (j == k) ≡ c → (is_member j ks ≡ false → pattern_sum (with_number j ks) ≡ (pattern j + pattern_sum ks) % 2 ^ 64) → pattern_sum (cond b (j ∷ k ∷ ks) (cond c (k ∷ ks) (k ∷ with_number j ks))) ≡ (pattern j + pattern_sum (k ∷ ks)) % 2 ^ 64
    at true c is rest = refl
    at false true is rest = let same : j ≡ k = eqb-true j k is in absurd (false≢true (sym parts.0 ∙ eq-eqb k j (sym same)))
    at false false is rest = ap (λ q. (pattern k + q) % 2 ^ 64) (rest parts.1) ∙ swap_sum (pattern k) (pattern j) (pattern_sum ks)

pub pattern_sum-lt : (xs : List ℕ) → pattern_sum xs < 2 ^ 64
pattern_sum-lt [] = omega arith
pattern_sum-lt (x ∷ xs) = omega arith

taken_back : (p m s : ℕ) → m < 2 ^ 64 → s ≡ (p + m) % 2 ^ 64 → p < 2 ^ 64 → (s + (2 ^ 64 - p)) % 2 ^ 64 ≡ m
taken_back p m s h e q = omega arith

pub pattern_sum-without : (j : ℕ) (xs : List ℕ) → is_rising xs ≡ true → is_member j xs ≡ true → pattern j < 2 ^ 64 → (pattern_sum xs + (2 ^ 64 - pattern j)) % 2 ^ 64 ≡ pattern_sum (without j xs)
pattern_sum-without j xs rising there small =
    taken_back (pattern j) (pattern_sum (without j xs)) (pattern_sum xs) (pattern_sum-lt (without j xs))
    (sym (ap pattern_sum (put_back j xs rising there)) ∙ pattern_sum-with_number j (without j xs) (is_member-left j xs)) small

-- ---- subsets

pub is_within-from_members : (xs ys : List ℕ) → ((i : ℕ) → is_member i xs ≡ true → is_member i ys ≡ true) → is_within xs ys ≡ true
is_within-from_members xs ys h = list_all-from_members (λ k. is_member k ys) xs h

pub not_within : (xs ys : List ℕ) (i : ℕ) → is_member i xs ≡ true → is_member i ys ≡ false → is_within xs ys ≡ false
not_within xs ys i there absent = false_from_ne_true (is_within xs ys) (λ all. false≢true (sym absent ∙ list_all-member (λ k. is_member k ys) xs i all there))
