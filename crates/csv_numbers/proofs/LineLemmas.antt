-- A record of plain fields is written as its fields joined by commas, and so a table's text grows by a line for each row.
use Rattle.std.proofs.Common.{◌≡◌, ◌<◌, ◌≤◌, ◌^◌, ◌+◌, ◌==◌, ◌&&◌, ◌||◌, ◌++◌, ◌∷◌, ◌∙◌, [], Bool, ℕ, suc, List, append-nil, append_assoc, ap, ap₂, arith, false, get_or, length, map, not, refl, sym, take, true}
use Rattle.std.specs.Prelude.{decimal, nat_le, nat_lt}
use Rattle.std.specs.Int.{IsInRange}
use Rattle.std.specs.List.{All, flat_map, join_with_byte, list_all, list_any}
use Rattle.std.proofs.lemmas.Bool.{and_from, and_parts, le-leb, leb-true, lt-ltb, ltb-true, ne_eqb, not-true}
use Rattle.std.proofs.lemmas.Fmt.{decimal_is_IsNumeral}
use Rattle.std.proofs.lemmas.List.{length-map, take_more}
use Rattle.std.proofs.lemmas.List.Concat.{flat_map-append}
use Rattle.std.proofs.lemmas.Str.Parse.{digit_at}
use Rattle.csv.specs.Writing.{default_writer, field_text, fields_text, is_blank, needs_byte, row_text}
use Rattle.csv_numbers.specs.RowsText.{are_plain, is_plain, is_plain_byte, line_of, row_line, rows_text}

-- what a plain byte is
pub plain-parts : (b : ℕ) → is_plain_byte b ≡ true → (32 ≤ b) × (b < 127) × ((b == 44) ≡ false) × ((b == 34) ≡ false)
plain-parts b h =
    let quote = and_parts (nat_le 32 b && nat_lt b 127 && not (b == 44)) (not (b == 34)) h in
    let comma = and_parts (nat_le 32 b && nat_lt b 127) (not (b == 44)) quote.0 in
    let ends = and_parts (nat_le 32 b) (nat_lt b 127) comma.0 in
    (leb-true 32 b ends.0, ltb-true b 127 ends.1, not-true (b == 44) comma.1, not-true (b == 34) quote.1)

-- a plain byte calls for no quotes
needs-plain : (b : ℕ) → is_plain_byte b ≡ true → needs_byte default_writer b ≡ false
needs-plain b h =
    let (low, high, comma, quote) = plain-parts b h in
    let cr : (b == 13) ≡ false = ne_eqb b 13 (λ e. absurd (omega (arith, low, e))) in
    let lf : (b == 10) ≡ false = ne_eqb b 10 (λ e. absurd (omega (arith, low, e))) in
    rw (comma, quote, cr, lf) refl

none-needs : (word : List ℕ) → list_all is_plain_byte word ≡ true → list_any (needs_byte default_writer) word ≡ false
none-needs [] h = refl
none-needs (b ∷ rest) h =
    let parts = and_parts (is_plain_byte b) (list_all is_plain_byte rest) h in
    ap₂ (λ (p q : Bool). p || q) (needs-plain b parts.0) (none-needs rest parts.1)

-- a plain word is written as it is
field_text-plain : (word : List ℕ) → is_plain word ≡ true → field_text default_writer word ≡ word
field_text-plain word h =
    let parts = and_parts (not (length word == 0)) (list_all is_plain_byte word) h in
    let none : list_any (needs_byte default_writer) word ≡ false = none-needs word parts.1 in
    rw none refl

body-plain : (word : List ℕ) (words : List (List ℕ)) → is_plain word ≡ true → list_all is_plain words ≡ true
    → field_text default_writer word ++ fields_text default_writer words ≡ join_with_byte 44 (word ∷ words)
unfolding fields_text
body-plain word [] h all = append-nil (field_text default_writer word) ∙ field_text-plain word h
body-plain word (next ∷ words) h all =
    let parts = and_parts (is_plain next) (list_all is_plain words) all in
    ap (λ (t : List ℕ). field_text default_writer word ++ 44 ∷ t) (body-plain next words parts.0 parts.1)
    ∙ ap (λ (t : List ℕ). t ++ 44 ∷ join_with_byte 44 (next ∷ words)) (field_text-plain word h)

-- a record of plain words shows a byte
blank-plain : (word : List ℕ) (words : List (List ℕ)) → is_plain word ≡ true → is_blank default_writer (word ∷ words) ≡ false
unfolding is_blank
blank-plain word [] h =
    let parts = and_parts (not (length word == 0)) (list_all is_plain_byte word) h in
    rw (field_text-plain word h) (not-true (length word == 0) parts.0)
blank-plain word (next ∷ words) h = refl

-- the line of a record of plain words
pub row_text-plain : (words : List (List ℕ)) → are_plain words ≡ true → row_text default_writer words ≡ line_of words
row_text-plain [] h = cc h
row_text-plain (word ∷ words) h =
    let all = and_parts (not (length (word ∷ words) == 0)) (list_all is_plain (word ∷ words)) h in
    let parts = and_parts (is_plain word) (list_all is_plain words) all.1 in
    rw (blank-plain word words parts.0) (ap (λ (t : List ℕ). t ++ 10 ∷ []) (body-plain word words parts.0 parts.1))

-- there is a plain word
pub some-plain : (words : List (List ℕ)) → are_plain words ≡ true → 0 < length words
some-plain [] h = cc h
some-plain (word ∷ words) h = omega arith

-- a digit is plain
plain-digit : (b : ℕ) → IsInRange 48 57 b → is_plain_byte b ≡ true
plain-digit b h =
    let comma : (b == 44) ≡ false = ne_eqb b 44 (λ e. absurd (omega (arith, h, e))) in
    let quote : (b == 34) ≡ false = ne_eqb b 34 (λ e. absurd (omega (arith, h, e))) in
    rw (le-leb 32 b (omega (arith, h)), lt-ltb b 127 (omega (arith, h)), comma, quote) refl

all-digits : (digits : List ℕ) → ((k : ℕ) → k < length digits → IsInRange 48 57 (get_or digits k 0)) → list_all is_plain_byte digits ≡ true
all-digits [] h = refl
all-digits (b ∷ rest) h =
    and_from (is_plain_byte b) (list_all is_plain_byte rest) (plain-digit b (h 0 (omega arith))) (all-digits rest (λ k lt. h (suc k) (omega arith)))

plain-decimal : (n : ℕ) → n < 2 ^ 64 → is_plain (decimal n) ≡ true
plain-decimal n small =
    let h = decimal_is_IsNumeral n small in
    let some : (length (decimal n) == 0) ≡ false = ne_eqb (length (decimal n)) 0 (λ e. absurd (omega (arith, h.0.0, e))) in
    and_from (not (length (decimal n) == 0)) (list_all is_plain_byte (decimal n)) (ap not some) (all-digits (decimal n) (λ k lt. digit_at (decimal n) k h.0.1 lt))

all-decimals : (numbers : List ℕ) → All (λ n. n < 2 ^ 64) numbers → list_all is_plain (map decimal numbers) ≡ true
all-decimals [] fit = refl
all-decimals (n ∷ rest) fit =
    and_from (is_plain (decimal n)) (list_all is_plain (map decimal rest)) (plain-decimal n (fit 0 0 (omega arith))) (all-decimals rest (λ k d lt. fit (suc k) d (omega arith)))

-- the line of a row of numbers
pub row_text-numbers : (numbers : List ℕ) → 0 < length numbers → All (λ n. n < 2 ^ 64) numbers → row_text default_writer (map decimal numbers) ≡ row_line numbers
row_text-numbers numbers lt fit =
    let some : (length (map decimal numbers) == 0) ≡ false = ne_eqb (length (map decimal numbers)) 0 (λ e. absurd (omega (arith, lt, e, length-map numbers decimal))) in
    row_text-plain (map decimal numbers) (and_from (not (length (map decimal numbers) == 0)) (list_all is_plain (map decimal numbers)) (ap not some) (all-decimals numbers fit))

-- the text of a heading alone
pub rows_text-none : (heading : List (List ℕ)) → [] ++ line_of heading ≡ rows_text heading []
unfolding rows_text
rows_text-none heading = sym (append-nil (line_of heading))

-- the text with one more row
pub rows_text-more : (heading : List (List ℕ)) (rows : List (List ℕ)) (i : ℕ) (numbers : List ℕ) → i < length rows → numbers ≡ get_or rows i []
    → rows_text heading (take i rows) ++ row_line numbers ≡ rows_text heading (take (i + 1) rows)
unfolding rows_text
rows_text-more heading rows i numbers lt is =
    let more : take (i + 1) rows ≡ take i rows ++ numbers ∷ [] = take_more rows i [] lt ∙ ap (λ (r : List ℕ). take i rows ++ r ∷ []) (sym is) in
    let lines : flat_map row_line (take (i + 1) rows) ≡ flat_map row_line (take i rows) ++ row_line numbers =
    ap (flat_map row_line) more ∙ flat_map-append row_line (take i rows) (numbers ∷ []) ∙ ap (λ (t : List ℕ). flat_map row_line (take i rows) ++ t) (append-nil (row_line numbers)) in
    append_assoc (line_of heading) (flat_map row_line (take i rows)) (row_line numbers)
    ∙ ap (λ (t : List ℕ). line_of heading ++ t) (sym lines)
