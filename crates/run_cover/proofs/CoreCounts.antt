-- How many cores pass a test.
--     cores_where-all, -none, -mono, -le     where all pass, none does, each that passes one test passes another, and at most
--     one_core_changes                       two tests that agree but for one core
--     counted, some_core                     a core that passes is counted, and where some are counted one passes
use Rattle.std.proofs.Common.{◌≡◌, ◌≢◌, ℕ, zero, suc, ◌+◌, ◌<◌, ◌≤◌, Bool, true, false, List, [], ◌∷◌, length, refl, ap, ◌∙◌, arith, ⊎_elim}
use Rattle.std.specs.List.{count_by, range_with_len}
use Rattle.std.proofs.lemmas.List.Sums.{count_by-le-length}
use Rattle.std.proofs.lemmas.List.FromFn.{length-range_with_len}
use Rattle.std.proofs.lemmas.Bool.{cases_eq, cases_Bool, false≢true}
use Rattle.sag_time.proofs.Counts.{one_if, count_by-cons, one_if-true, one_if-false, one_if-mono}
use Rattle.run_cover.specs.Covers.{cores_where}

count_by-all : (p : ℕ → Bool) → ((x : ℕ) → p x ≡ true) → (xs : List ℕ) → count_by p xs ≡ length xs
count_by-all p all [] = refl
count_by-all p all (x ∷ xs) = omega (arith, one_if-true (p x) (all x), count_by-all p all xs, count_by-cons p x xs)

count_by-none : (p : ℕ → Bool) → ((x : ℕ) → p x ≡ false) → (xs : List ℕ) → count_by p xs ≡ 0
count_by-none p none [] = refl
count_by-none p none (x ∷ xs) = omega (arith, one_if-false (p x) (none x), count_by-none p none xs, count_by-cons p x xs)

count_by-mono : (p q : ℕ → Bool) → ((x : ℕ) → p x ≡ true → q x ≡ true) → (xs : List ℕ) → count_by p xs ≤ count_by q xs
count_by-mono p q h [] = omega arith
count_by-mono p q h (x ∷ xs) = omega (arith, count_by-mono p q h xs, count_by-cons p x xs, count_by-cons q x xs, one_if-mono (p x) (q x) (h x))

pub cores_where-all : (m : ℕ) (p : ℕ → Bool) → ((c : ℕ) → p c ≡ true) → cores_where m p ≡ m
cores_where-all m p all = count_by-all p all (range_with_len 0 m) ∙ length-range_with_len 0 m

pub cores_where-none : (m : ℕ) (p : ℕ → Bool) → ((c : ℕ) → p c ≡ false) → cores_where m p ≡ 0
cores_where-none m p none = count_by-none p none (range_with_len 0 m)

pub cores_where-mono : (m : ℕ) (p q : ℕ → Bool) → ((c : ℕ) → p c ≡ true → q c ≡ true) → cores_where m p ≤ cores_where m q
cores_where-mono m p q h = count_by-mono p q h (range_with_len 0 m)

pub cores_where-le : (m : ℕ) (p : ℕ → Bool) → cores_where m p ≤ m
cores_where-le m p = omega (arith, count_by-le-length p (range_with_len 0 m), length-range_with_len 0 m)

-- ---- one core changes

module _ (d : ℕ) (p q : ℕ → Bool) (others : (c : ℕ) → c ≢ d → q c ≡ true → p c ≡ true) where
  past : (a n : ℕ) → d < a → count_by q (range_with_len a n) ≤ count_by p (range_with_len a n)
  past a zero h = omega arith
  past a (suc n) h =
      let rest = range_with_len (a + 1) n in
      let one : one_if (q a) ≤ one_if (p a) = one_if-mono (q a) (p a) (others a (λ e. omega (arith, e, h))) in
      omega (arith, past (a + 1) n (omega (arith, h)), count_by-cons q a rest, count_by-cons p a rest, one)

  from : (a n : ℕ) → a ≤ d → d < a + n → count_by q (range_with_len a n) + one_if (p d) ≤ count_by p (range_with_len a n) + one_if (q d)
  from a zero low high = absurd (omega (arith, low, high))
  from a (suc n) low high =
      let rest = range_with_len (a + 1) n in
      let left : count_by q (a ∷ rest) ≡ one_if (q a) + count_by q rest = count_by-cons q a rest in
      let right : count_by p (a ∷ rest) ≡ one_if (p a) + count_by p rest = count_by-cons p a rest in
      ⊎_elim
      (λ (same : a ≡ d).
      let q_same : one_if (q a) ≡ one_if (q d) = ap (λ c. one_if (q c)) same in
      let p_same : one_if (p a) ≡ one_if (p d) = ap (λ c. one_if (p c)) same in
      omega (arith, left, right, past (a + 1) n (omega (arith, same)), q_same, p_same))
      (λ (other : a ≡ d → ⊥).
      let one : one_if (q a) ≤ one_if (p a) = one_if-mono (q a) (p a) (others a other) in
      omega (arith, left, right, from (a + 1) n (omega (arith, low, other)) (omega (arith, high)), one))
      (cases_eq a d)

-- where each core but d that passes q passes p, the counts differ by what core d adds
pub one_core_changes : (m d : ℕ) (p q : ℕ → Bool) → d < m → ((c : ℕ) → c ≢ d → q c ≡ true → p c ≡ true) →
    cores_where m q + one_if (p d) ≤ cores_where m p + one_if (q d)
one_core_changes m d p q below others = from d p q others 0 m (omega arith) (omega (arith, below))

-- a core that passes is counted
pub counted : (m d : ℕ) (p : ℕ → Bool) → d < m → one_if (p d) ≤ cores_where m p
counted m d p below = omega (arith, one_core_changes m d p (λ c. false) below (λ c other e. absurd (false≢true e)))

some_from : (p : ℕ → Bool) (a n : ℕ) → 1 ≤ count_by p (range_with_len a n) → (c : ℕ) × (c < a + n) × (p c ≡ true)
some_from p a zero h = absurd (omega (arith, h))
some_from p a (suc n) h = ⊎_elim
    (λ (yes : p a ≡ true). (a, omega arith, yes))
    (λ (no : p a ≡ false).
    let cons = count_by-cons p a (range_with_len (a + 1) n) in
    let rest = some_from p (a + 1) n (omega (arith, h, cons, one_if-false (p a) no)) in
    (rest.0, omega (arith, rest.1), rest.2))
    (cases_Bool (p a))

-- where some are counted, a core passes
pub some_core : (m : ℕ) (p : ℕ → Bool) → 1 ≤ cores_where m p → (c : ℕ) × (c < m) × (p c ≡ true)
some_core m p h = let found = some_from p 0 m h in (found.0, omega (arith, found.1), found.2)
