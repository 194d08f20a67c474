-- More numbers than places: two of them have one place.
use Rattle.std.proofs.Common.{◌≡◌, ◌≢◌, ℕ, zero, suc, ◌<◌, ◌≤◌, ◌⊎◌, inl, inr, cond, eqb, sym, ◌∙◌, arith}
use Rattle.std.proofs.lemmas.Bool.{cases_eq, cond-true, cond-false, eq-eqb, ne_eqb}

-- either one of the first n values is v, or none is
sought : (f : ℕ → ℕ) (v n : ℕ) → ((x : ℕ) × (x < n) × (f x ≡ v)) ⊎ ((x : ℕ) → x < n → f x ≢ v)
sought f v zero = inr (λ x less same. omega (arith, less))
sought f v (suc n) = first (cases_eq (f n) v) (sought f v n)
  where
    second : f n ≢ v → ((x : ℕ) × (x < n) × (f x ≡ v)) ⊎ ((x : ℕ) → x < n → f x ≢ v) → ((x : ℕ) × (x < suc n) × (f x ≡ v)) ⊎ ((x : ℕ) → x < suc n → f x ≢ v)
    second differ (inl found) = inl (found.0, omega (arith, found.1), found.2)
    second differ (inr none) = inr (λ x less. by x (cases_eq x n) less)
      where
        by : (x : ℕ) → (x ≡ n) ⊎ (x ≢ n) → x < suc n → f x ≢ v
        by x (inl e) less = rw e differ
        by x (inr e) less = none x (omega (arith, less, e))

    first : (f n ≡ v) ⊎ (f n ≢ v) → ((x : ℕ) × (x < n) × (f x ≡ v)) ⊎ ((x : ℕ) → x < n → f x ≢ v) → ((x : ℕ) × (x < suc n) × (f x ≡ v)) ⊎ ((x : ℕ) → x < suc n → f x ≢ v)
    first (inl e) rest = inl (n, omega arith, e)
    first (inr differ) rest = second differ rest

-- the place m is given up for `last`, the place of the number that is left out
abbrev moved : ℕ → ℕ → ℕ → ℕ
moved m last v = cond (eqb v m) last v

moved_top : (m last v : ℕ) → v ≡ m → moved m last v ≡ last
moved_top m last v e = cond-true (eqb v m) last v (eq-eqb v m e)

moved_other : (m last v : ℕ) → v ≢ m → moved m last v ≡ v
moved_other m last v e = cond-false (eqb v m) last v (ne_eqb v m e)

moved_below : (m last v : ℕ) → (v ≡ m) ⊎ (v ≢ m) → last < suc m → v < suc m → v ≢ last → moved m last v < m
moved_below m last v (inl e) less_last less differ = omega (arith, moved_top m last v e)
moved_below m last v (inr e) less_last less differ = omega (arith, moved_other m last v e)

moved_same : (m last a b : ℕ) → (a ≡ m) ⊎ (a ≢ m) → (b ≡ m) ⊎ (b ≢ m) → a ≢ last → b ≢ last → moved m last a ≡ moved m last b → a ≡ b
moved_same m last a b (inl e) (inl f) differ_a differ_b same = omega (arith, e, f)
moved_same m last a b (inl e) (inr f) differ_a differ_b same = absurd (differ_b (sym (moved_other m last b f) ∙ sym same ∙ moved_top m last a e))
moved_same m last a b (inr e) (inl f) differ_a differ_b same = absurd (differ_a (sym (moved_other m last a e) ∙ same ∙ moved_top m last b f))
moved_same m last a b (inr e) (inr f) differ_a differ_b same = sym (moved_other m last a e) ∙ same ∙ moved_other m last b f

module _ (m : ℕ) (f : ℕ → ℕ) (below : (x : ℕ) → x ≤ suc m → f x < suc m) where
  abbrev TwoOfOnePlace : ℕ → (ℕ → ℕ) → Type 0
  TwoOfOnePlace n g = (x : ℕ) × (y : ℕ) × (x < y) × (y ≤ n) × (g x ≡ g y)

  -- the last number's place is another's, or it is given up
  with_last : ((g : ℕ → ℕ) → ((x : ℕ) → x ≤ m → g x < m) → TwoOfOnePlace m g) →
      ((x : ℕ) × (x < suc m) × (f x ≡ f (suc m))) ⊎ ((x : ℕ) → x < suc m → f x ≢ f (suc m)) → TwoOfOnePlace (suc m) f
  with_last fewer (inl found) = (found.0, suc m, found.1, omega arith, found.2)
  with_last fewer (inr none) =
      let last = f (suc m) in
      let g = λ (x : ℕ). moved m last (f x) in
      let found = fewer g (λ x less. moved_below m last (f x) (cases_eq (f x) m) (below (suc m) (omega arith)) (below x (omega (arith, less))) (none x (omega (arith, less)))) in (
        found.0,
        found.1,
        found.2,
        omega (arith, found.3),
        moved_same m last (f found.0) (f found.1) (cases_eq _ _) (cases_eq _ _) (none found.0 (omega (arith, found.2, found.3))) (none found.1 (omega (arith, found.3))) found.4,
      )

-- of m + 1 numbers with places below m, two have one place
pub pigeonhole : (m : ℕ) (f : ℕ → ℕ) → ((x : ℕ) → x ≤ m → f x < m) → (x : ℕ) × (y : ℕ) × (x < y) × (y ≤ m) × (f x ≡ f y)
pigeonhole zero f below = let never : f 0 < 0 = below 0 (omega arith) in absurd (omega (arith, never))
pigeonhole (suc m) f below = with_last m f below (pigeonhole m) (sought f (f (suc m)) (suc m))
