-- Blanks at the ends of a text, and the value of the digits so far.
use Rattle.std.proofs.Common.{◌≡◌, ◌≤◌, ◌<◌, ◌+◌, ◌-◌, ◌*◌, ◌++◌, ◌∷◌, ◌∙◌, [], ℕ, List, length, take, drop, get_or, reverse, true, false, arith, refl, sym, ap}
use Rattle.std.proofs.lemmas.List.{reverse-append, reverse-reverse, take_more, take_all}
use Rattle.std.proofs.lemmas.Int.Digits.{digits_value_more}
use Rattle.std.proofs.lemmas.Str.{digit_value_digit}
use Rattle.std.proofs.lemmas.Str.Parse.{digits_value-take-le}
use Rattle.std.specs.Char.{digit_value}
use Rattle.std.specs.Int.{IsInRange}
use Rattle.std.specs.Str.Parse.{digits_value}
use Rattle.csv_numbers.specs.Fields.{is_blank, without_blanks}

-- a blank at the start goes
pub front-step : (t : List ℕ) → 1 ≤ length t → is_blank (get_or t 0 0) ≡ true → without_blanks (take (length t - 1) (drop 1 t)) ≡ without_blanks t
unfolding without_blanks
front-step [] lt e = absurd (omega arith)
front-step (b ∷ rest) lt e =
    let all : take (length (b ∷ rest) - 1) rest ≡ rest = take_all (length (b ∷ rest) - 1) rest (omega arith) in
    rw (all, e) refl

-- a text that starts with no blank
pub front-stop : (t : List ℕ) → is_blank (get_or t 0 0) ≡ false → without_blanks t ≡ t
unfolding without_blanks
front-stop [] e = refl
front-stop (b ∷ rest) e = rw e refl

pub front-none : (t : List ℕ) → length t < 1 → without_blanks t ≡ t
unfolding without_blanks
front-none [] lt = refl
front-none (b ∷ rest) lt = absurd (omega arith)

-- the last byte comes first when a text is turned round
reverse-last : (t : List ℕ) → 1 ≤ length t → reverse t ≡ get_or t (length t - 1) 0 ∷ reverse (take (length t - 1) t)
reverse-last t lt =
    let n : ℕ = length t - 1 in
    let whole : take (n + 1) t ≡ t = take_all (n + 1) t (omega arith) in
    let parts : t ≡ take n t ++ get_or t n 0 ∷ [] = sym whole ∙ take_more t n 0 (omega arith) in
    ap reverse parts ∙ reverse-append (take n t) (get_or t n 0 ∷ [])

-- a blank at the end goes
pub back-step : (t : List ℕ) → 1 ≤ length t → is_blank (get_or t (length t - 1) 0) ≡ true → without_blanks (reverse (take (length t - 1) t)) ≡ without_blanks (reverse t)
unfolding without_blanks
back-step t lt e = rw (reverse-last t lt, e) refl

-- a text that ends with no blank
pub back-stop : (t : List ℕ) → 1 ≤ length t → is_blank (get_or t (length t - 1) 0) ≡ false → reverse (without_blanks (reverse t)) ≡ t
unfolding without_blanks
back-stop t lt e =
    let same : without_blanks (reverse t) ≡ reverse t = rw (reverse-last t lt, e) refl in
    ap reverse same ∙ reverse-reverse t

pub back-none : (t : List ℕ) → length t < 1 → reverse (without_blanks (reverse t)) ≡ t
unfolding without_blanks
back-none [] lt = refl
back-none (b ∷ rest) lt = absurd (omega arith)

-- one more digit
pub value-more : (ds : List ℕ) (i : ℕ) → i < length ds → IsInRange 48 57 (get_or ds i 0)
    → digits_value 10 (take (i + 1) ds) ≡ digits_value 10 (take i ds) * 10 + (get_or ds i 0 - 48)
value-more ds i lt digit =
    let d : digit_value (get_or ds i 0) ≡ get_or ds i 0 - 48 = omega (arith, digit_value_digit (get_or ds i 0) digit) in
    digits_value_more 10 ds i lt ∙ ap (λ k. digits_value 10 (take i ds) * 10 + k) d

-- no less than the digits so far
pub value-least : (ds : List ℕ) (i : ℕ) → digits_value 10 (take i ds) ≤ digits_value 10 ds
value-least ds i = digits_value-take-le 10 ds i (omega arith)
