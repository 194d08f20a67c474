-- Rows that lie in one list: how many there are, the row at a place, and one more behind them.
use Rattle.std.proofs.Common.{◌≡◌, ◌≤◌, ◌<◌, ◌+◌, ◌*◌, ◌++◌, ◌∷◌, ◌∙◌, [], ℕ, zero, suc, List, length, take, drop, get_or, ap, ap₂, arith, length-drop, refl, sym}
use Rattle.std.proofs.Math.Nat.{mul-le-mul_right, suc-mul, zero-mul}
use Rattle.std.proofs.Math.Seq.{drop-nil}
use Rattle.std.proofs.lemmas.List.{drop-append-le, take-append-le, take_all}
use Rattle.csv_numbers.specs.FlatRows.{flat_rows}

-- how many rows there are
pub length-flat_rows : (width count : ℕ) (numbers : List ℕ) → length (flat_rows width count numbers) ≡ count
unfolding flat_rows
length-flat_rows width zero numbers = refl
length-flat_rows width (suc count) numbers = ap suc (length-flat_rows width count (drop width numbers))

-- a place among the rows is below their count
pub below-count : (width count : ℕ) (numbers : List ℕ) (rows : List (List ℕ)) (place : ℕ) → flat_rows width count numbers ≡ rows → place < length rows → place < count
below-count width count numbers rows place same below = omega (arith, below, ap length same, length-flat_rows width count numbers)

-- a row ends within the rows
pub row-within : (width count place : ℕ) → place < count → place * width + width ≤ count * width
row-within width count place below =
    let le : suc place * width ≤ count * width = mul-le-mul_right width (omega (arith, below)) in
    omega (arith, le, suc-mul place width)

-- a part that is left of a part that is left
drop-drop : (i j : ℕ) (xs : List ℕ) → drop i (drop j xs) ≡ drop (j + i) xs
drop-drop i zero xs = let sum : i ≡ zero + i = omega arith in ap (λ n. drop n xs) sum
drop-drop i (suc j) [] = drop-nil i ∙ sym (drop-nil (suc j + i))
drop-drop i (suc j) (x ∷ xs) =
    let sum : suc (j + i) ≡ suc j + i = omega arith in
    drop-drop i j xs ∙ ap (λ n. drop n (x ∷ xs)) sum

-- the row at a place
pub flat_rows-at : (width count place : ℕ) (numbers : List ℕ) → place < count → get_or (flat_rows width count numbers) place [] ≡ take width (drop (place * width) numbers)
unfolding flat_rows
flat_rows-at width zero place numbers below = absurd (omega (arith, below))
flat_rows-at width (suc count) zero numbers below = ap (λ n. take width (drop n numbers)) (sym (zero-mul width))
flat_rows-at width (suc count) (suc place) numbers below =
    let start : width + place * width ≡ suc place * width = omega (arith, suc-mul place width) in
    flat_rows-at width count place (drop width numbers) (omega (arith, below))
    ∙ ap (take width) (drop-drop (place * width) width numbers ∙ ap (λ n. drop n numbers) start)

-- one more row
pub flat_rows-push : (width count : ℕ) (numbers row : List ℕ) → length numbers ≡ count * width → length row ≡ width
    → flat_rows width (suc count) (numbers ++ row) ≡ flat_rows width count numbers ++ row ∷ []
unfolding flat_rows
flat_rows-push width zero [] row long wide = ap (λ (r : List ℕ). r ∷ []) (take_all width row (omega (arith, wide)))
flat_rows-push width zero (n ∷ numbers) row long wide = absurd (omega (arith, long))
flat_rows-push width (suc count) numbers row long wide =
    let rest : length numbers ≡ count * width + width = omega (arith, long, suc-mul count width) in
    let front : take width (numbers ++ row) ≡ take width numbers = take-append-le width numbers row (omega (arith, rest)) in
    let back : drop width (numbers ++ row) ≡ drop width numbers ++ row = drop-append-le width numbers row (omega (arith, rest)) in
    let next = flat_rows-push width count (drop width numbers) row (omega (arith, rest, length-drop width numbers)) wide in
    ap₂ (λ (r : List ℕ) (l : List (List ℕ)). r ∷ l) front (ap (flat_rows width (suc count)) back ∙ next)
