-- How many jobs are left, which are not done.
use Rattle.std.proofs.Common.{◌≡◌, ◌≢◌, ℕ, zero, suc, ◌+◌, ◌<◌, ◌≤◌, ◌⊎◌, inl, inr, Bool, true, false, cond, refl, ap, ◌∙◌, arith}
use Rattle.std.proofs.lemmas.Bool.{cases_lt, cases_eq, cond-true, cond-false}
use Rattle.run_turns.specs.Parts.{undone}

counted_false : (b : Bool) → b ≡ false → ◌≡◌ {A = ℕ} (cond b 0 1) 1
counted_false b e = cond-false b 0 1 e

counted_true : (b : Bool) → b ≡ true → ◌≡◌ {A = ℕ} (cond b 0 1) 0
counted_true b e = cond-true b 0 1 e

pub undone_none : (done : ℕ → Bool) (n : ℕ) → undone done n ≡ 0 → (j : ℕ) → j < n → done j ≡ true
undone_none done zero e j less = absurd (omega (arith, less))
undone_none done (suc n) e j less = by (done n) refl e (cases_lt j n) (undone_none done n)
  where
    by : (b : Bool) → done n ≡ b → cond b 0 1 + undone done n ≡ 0 → (j < n) ⊎ (n ≤ j) → (undone done n ≡ 0 → (j : ℕ) → j < n → done j ≡ true) → done j ≡ true
    by false h e s rest = absurd (omega (arith, e))
    by true h e (inl below) rest = rest (omega (arith, e)) j below
    by true h e (inr more) rest = let same : j ≡ n = omega (arith, less, more) in ap done same ∙ h

pub undone_all : (done : ℕ → Bool) (n : ℕ) → ((j : ℕ) → j < n → done j ≡ false) → undone done n ≡ n
undone_all done zero h = refl
undone_all done (suc n) h =
    let here = counted_false (done n) (h n (omega arith)) in
    omega (arith, here, undone_all done n (λ j less. h j (omega (arith, less))))

pub undone_some : (done : ℕ → Bool) (n : ℕ) → 0 < undone done n → (j : ℕ) × (j < n) × (done j ≡ false)
undone_some done zero e = absurd (omega (arith, e))
undone_some done (suc n) e = by (done n) refl e (λ more. undone_some done n more)
  where
    by : (b : Bool) → done n ≡ b → 0 < cond b 0 1 + undone done n → (0 < undone done n → (j : ℕ) × (j < n) × (done j ≡ false)) → (j : ℕ) × (j < suc n) × (done j ≡ false)
    by false h e rest = (n, omega arith, h)
    by true h e rest = let found = rest (omega (arith, e)) in (found.0, omega (arith, found.1), found.2)

pub undone_same : (done more : ℕ → Bool) (n : ℕ) → ((i : ℕ) → i < n → more i ≡ done i) → undone more n ≡ undone done n
undone_same done more zero h = refl
undone_same done more (suc n) h = cc (h n (omega arith), undone_same done more n (λ i less. h i (omega (arith, less))))

pub undone_less : (done more : ℕ → Bool) (b n : ℕ) → b < n → done b ≡ false → more b ≡ true → ((i : ℕ) → i ≢ b → more i ≡ done i) → undone done n ≡ suc (undone more n)
undone_less done more b zero less old new other = absurd (omega (arith, less))
undone_less done more b (suc n) less old new other = by (cases_eq n b) (λ below. undone_less done more b n below old new other)
  where
    by : (n ≡ b) ⊎ (n ≢ b) → (b < n → undone done n ≡ suc (undone more n)) → cond (done n) 0 1 + undone done n ≡ suc (cond (more n) 0 1 + undone more n)
    by (inl e) rest =
        let here = counted_false (done n) (ap done e ∙ old) in
        let now = counted_true (more n) (ap more e ∙ new) in
        omega (arith, here, now, undone_same done more n (λ i below. other i (λ f. omega (arith, below, e, f))))
    by (inr differ) rest =
        let same : ◌≡◌ {A = ℕ} (cond (more n) 0 1) (cond (done n) 0 1) = ap (λ x. cond x 0 1) (other n differ) in
        omega (arith, same, rest (omega (arith, less, differ)))
