-- The digits of a number, one byte at a time.
use Rattle.std.proofs.Common.{◌≡◌, ℕ, ◌+◌, ◌-◌, ◌*◌, ◌/◌, ◌%◌, ◌<◌, ◌≤◌, ◌==◌, ◌&&◌, nat_le, Bool, true, false, ◌⊎◌, inl, inr, leb, List, [], ◌∷◌, ◌++◌, refl, sym, ap, ◌∙◌, arith}
use Rattle.std.specs.Prelude.{decimal}
use Rattle.std.proofs.lemmas.Bool.{leb-true, le-leb, eqb-false, ne_eqb}
use Rattle.std.proofs.lemmas.Fmt.{decimal_digit, decimal_step, decimal_by_steps}
use Rattle.cert_text.specs.declared.grammar.Grammar.{Grammar}
use Rattle.cert_text.specs.declared.spot.Standing.{Standing}
use Rattle.cert_text.specs.declared.spot.NumberAt.{NumberAt}
use Rattle.cert_text.specs.declared.spot.Spot.{Spot}
use Rattle.cert_text.specs.declared.spot.Spot.TheVariants as spot
use Rattle.cert_text.specs.Grammar.{IsCertNumber, most_number}
use Rattle.cert_text.specs.Machine.{Draft, Step, On, Whole, Wrong, is_digit, first_digit, byte_step, byte_steps}

pub cases_bool : (b : Bool) → (b ≡ true) ⊎ (b ≡ false)
cases_bool true = inl refl
cases_bool false = inr refl

-- ---- digits

both : {P Q : Type 0} (x y : Bool) → (x && y) ≡ true → (x ≡ true → P) → (y ≡ true → Q) → P × Q
both true true h p q = (p refl, q refl)
both true false h p q = absurd cc
both false y h p q = absurd cc

pub digit-true : (b : ℕ) → is_digit b ≡ true → (48 ≤ b) × (b ≤ 57)
digit-true b h = both (leb 48 b) (leb b 57) h (leb-true 48 b) (leb-true b 57)

pub digit-is : (x : ℕ) → x < 10 → is_digit (48 + x) ≡ true
digit-is x lt = let a : leb 48 (48 + x) ≡ true = le-leb _ _ (omega arith) in let b : leb (48 + x) 57 ≡ true = le-leb _ _ (omega arith) in rw (a, b) refl

-- a first digit, as a byte
pub first-shown : (b : ℕ) → is_digit b ≡ true → decimal (b - 48) ≡ b ∷ []
first-shown b h =
    let r = digit-true b h in
    decimal_digit (b - 48) (omega (arith, r.0, r.1)) ∙ ap (λ (n : ℕ). n ∷ []) (omega (arith, r.0))

pub not_zero : (n : ℕ) → (n == 0) ≡ false → 1 ≤ n
not_zero n h = let k = eqb-false n 0 h in omega (arith, k)

-- one more digit
pub more-shown : (value b : ℕ) → is_digit b ≡ true → (value == 0) ≡ false → value * 10 + (b - 48) ≤ most_number → decimal (value * 10 + (b - 48)) ≡ decimal value ++ b ∷ []
more-shown value b h some le =
    let r = digit-true b h in
    let pos : 1 ≤ value = not_zero value some in
    let front : (value * 10 + (b - 48)) / 10 ≡ value = omega (arith, r.0, r.1) in
    let end : 48 + (value * 10 + (b - 48)) % 10 ≡ b = omega (arith, r.0, r.1) in
    decimal_step (value * 10 + (b - 48)) (omega (arith, pos)) (omega (arith, le)) ∙ ap (λ (n : ℕ). decimal n ++ (48 + (value * 10 + (b - 48)) % 10) ∷ []) front
    ∙ ap (λ (n : ℕ). decimal value ++ n ∷ []) end

-- ---- bytes in turn

pub stuck : (g : Grammar) (s : Standing) (bytes : List ℕ) → byte_steps g s Wrong bytes ≡ Wrong
stuck g s [] = refl
stuck g s (b ∷ bs) = refl

pub steps-append : (g : Grammar) (s : Standing) (now : Step) (xs ys : List ℕ) → byte_steps g s now (xs ++ ys) ≡ byte_steps g s (byte_steps g s now xs) ys
steps-append g s now [] ys = refl
steps-append g s (On d p) (b ∷ bs) ys = steps-append g s (byte_step g s d p b) bs ys
steps-append g s (Whole l) (b ∷ bs) ys = sym (stuck g s ys)
steps-append g s Wrong (b ∷ bs) ys = sym (stuck g s ys)

pub chain : (g : Grammar) (s : Standing) (now mid end : Step) (xs ys : List ℕ) → byte_steps g s now xs ≡ mid → byte_steps g s mid ys ≡ end → byte_steps g s now (xs ++ ys) ≡ end
chain g s now mid end xs ys p q = steps-append g s now xs ys ∙ ap (λ (m : Step). byte_steps g s m ys) p ∙ q

-- ---- a number

more-digit : (g : Grammar) (s : Standing) (d : Draft) (p : NumberAt) (n : ℕ) → 10 ≤ n → IsCertNumber n → byte_step g s d (spot.Digits p (n / 10)) (48 + n % 10) ≡ On d (spot.Digits p n)
more-digit g s d p n ten fits =
    let a : is_digit (48 + n % 10) ≡ true = digit-is (n % 10) (omega arith) in
    let z : ((n / 10) == 0) ≡ false = ne_eqb (n / 10) 0 (λ e. omega (arith, e)) in
    let back : n / 10 * 10 + (48 + n % 10 - 48) ≡ n = omega arith in
    let m : nat_le n most_number ≡ true = le-leb n most_number (omega arith) in
    rw (a, z, back, m) refl

-- a further digit, where any fits
pub any-digit : (g : Grammar) (s : Standing) (d : Draft) (p : NumberAt) (value b : ℕ) → is_digit b ≡ true → 1 ≤ value → value < 461168601842738790
    → byte_step g s d (spot.Digits p value) b ≡ On d (spot.Digits p (value * 10 + (b - 48)))
any-digit g s d p value b h some few =
    let r = digit-true b h in
    let z : (value == 0) ≡ false = ne_eqb value 0 (λ e. omega (arith, e, some)) in
    let m : nat_le (value * 10 + (b - 48)) most_number ≡ true = le-leb (value * 10 + (b - 48)) most_number (omega (arith, few, r.1)) in
    rw (h, z, m) refl

one-digit : (d : Draft) (p : NumberAt) (m : ℕ) → m < 10 → first_digit d p (48 + m) ≡ On d (spot.Digits p m)
one-digit d p m lt =
    let a : is_digit (48 + m) ≡ true = digit-is m lt in
    let back : 48 + m - 48 ≡ m = omega arith in
    rw (a, back) refl

-- A number that follows a spot which takes a first digit is read whole.
pub number : (g : Grammar) (s : Standing) (d : Draft) (from : Spot) (p : NumberAt) (n : ℕ) → IsCertNumber n
    → ((b : ℕ) → is_digit b ≡ true → byte_step g s d from b ≡ first_digit d p b)
    → byte_steps g s (On d from) (decimal n) ≡ On d (spot.Digits p n)
number g s d from p n fits first =
    decimal_by_steps (λ (m : ℕ) (ds : List ℕ). IsCertNumber m → byte_steps g s (On d from) ds ≡ On d (spot.Digits p m))
    (λ m lt fit. first (48 + m) (digit-is m lt) ∙ one-digit d p m lt)
    (λ m ds ten before fit. chain g s (On d from) (On d (spot.Digits p (m / 10))) (On d (spot.Digits p m)) ds ((48 + m % 10) ∷ []) (before (omega arith)) (more-digit g s d p m ten fit))
    n (omega arith) fits
