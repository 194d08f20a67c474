-- What is written reads back.
use Rattle.std.proofs.Common.{◌≡◌, ◌<◌, ◌^◌, ◌-◌, ◌==◌, ◌++◌, ◌∷◌, ◌∙◌, [], ℕ, suc, List, Some, ap, arith, false, length, map, not, refl, reverse, subst, sym, true}
use Rattle.std.specs.Prelude.{decimal}
use Rattle.std.specs.Int.{IsInRange}
use Rattle.std.specs.List.{All, AllZip, flat_map, list_all}
use Rattle.std.specs.Str.Parse.{IsNumeral}
use Rattle.std.proofs.lemmas.Bool.{and_parts, ne_eqb}
use Rattle.std.proofs.lemmas.Fmt.{decimal_is_IsNumeral}
use Rattle.std.proofs.lemmas.List.{get_or_default}
use Rattle.std.proofs.lemmas.Str.Parse.{digit_at}
use Rattle.csv.proofs.RoundTrip.{read-write}
use Rattle.csv.specs.Machine.{next_record}
use Rattle.csv.specs.Reading.{Reached, default_config, strip_bom}
use Rattle.csv.specs.Writing.{default_writer, read_back, row_text}
use Rattle.csv.specs.declared.parser.State.TheVariants as st
use Rattle.csv_numbers.specs.Fields.{Spells, bare, is_blank, without_blanks}
use Rattle.csv_numbers.specs.Rows.{Reads, Record, RowReads, Rows}
use Rattle.csv_numbers.specs.RowsText.{are_plain, is_plain, is_plain_byte, line_of, row_line, rows_text}
use Rattle.csv_numbers.proofs.FieldLemmas.{back-stop, front-stop}
use Rattle.csv_numbers.proofs.LineLemmas.{plain-parts, row_text-numbers, row_text-plain}

-- a row of this width, of numbers that 64 bits hold
pub record IsRow (width : ℕ) (numbers : List ℕ) : Type 0 where
  pub width_is : length numbers ≡ width
  pub fit : All (λ n. n < 2 ^ 64) numbers

-- a digit is no blank
no-blank : (b : ℕ) → IsInRange 48 57 b → is_blank b ≡ false
no-blank b h = grind (arith)

-- digits have no blanks to lose
bare-digits : (ds : List ℕ) → IsNumeral 10 ds → bare ds ≡ ds
bare-digits ds h =
    let front = front-stop ds (no-blank _ (digit_at ds 0 h.1 h.0)) in
    let back = back-stop ds (omega (arith, h.0)) (no-blank _ (digit_at ds (length ds - 1) h.1 (omega (arith, h.0)))) in
    ap (λ t. reverse (without_blanks (reverse t))) front ∙ back

-- the digits of a number spell it
spells-decimal : (n : ℕ) → n < 2 ^ 64 → Spells (bare (decimal n)) n
spells-decimal n small =
    let h = decimal_is_IsNumeral n small in
    rw (bare-digits (decimal n) h.0) (record {
      digits = (h.0.0, λ k d lt. rw (get_or_default (decimal n) k d 0 lt) (digit_at (decimal n) k h.0.1 lt));
      value = h.1;
      fits = small;
    })

reads-decimals : (numbers : List ℕ) → All (λ n. n < 2 ^ 64) numbers → Reads (map decimal numbers) numbers
reads-decimals [] fit = tt
reads-decimals (n ∷ rest) fit = (spells-decimal n (fit 0 0 (omega arith)), reads-decimals rest (λ k d lt. fit (suc k) d (omega arith)))

length-decimals : (numbers : List ℕ) → length (map decimal numbers) ≡ length numbers
length-decimals [] = refl
length-decimals (n ∷ rest) = ap suc (length-decimals rest)

rows-read : (width : ℕ) (rows : List (List ℕ)) → All (IsRow width) rows → AllZip (RowReads width) (map (map decimal) rows) rows
rows-read width [] h = tt
rows-read width (row ∷ rows) h =
    let here : IsRow width row = h 0 [] (omega arith) in
    (record { width_is = length-decimals row ∙ here.width_is; numbers_are = reads-decimals row here.fit }, rows-read width rows (λ k d lt. h (suc k) d (omega arith)))

back-some : (fields : Record) → 0 < length fields → read_back fields ≡ fields
back-some [] lt = absurd (omega arith)
back-some (field ∷ rest) lt = refl

-- a line that the writer makes reads as its record
line-read : (fields : Record) (line tail : List ℕ) → row_text default_writer fields ≡ line
    → next_record default_config st.StartRecord [] [] (line ++ tail) ≡ Some (read_back fields, st.StartRecord, tail)
line-read fields line tail is =
    subst (λ (t : List ℕ). next_record default_config st.StartRecord [] [] (t ++ tail) ≡ Some (read_back fields, st.StartRecord, tail)) is (read-write fields tail)

lines-reached : (width : ℕ) (rows : List (List ℕ)) → 0 < width → All (IsRow width) rows
    → Reached default_config st.StartRecord (flat_map row_line rows) (map (map decimal) rows) st.StartRecord []
unfolding Reached
lines-reached width [] lt h = (refl, refl)
lines-reached width (row ∷ rows) lt h =
    let here : IsRow width row = h 0 [] (omega arith) in
    let tail : List ℕ = flat_map row_line rows in
    let is = row_text-numbers row (omega (arith, here.width_is)) here.fit in
    ((read_back (map decimal row), st.StartRecord, tail), line-read (map decimal row) (row_line row) tail is, sym (back-some (map decimal row) (omega (arith, here.width_is, length-decimals row))), lines-reached width rows lt (λ k d l. h (suc k) d (omega arith)))

-- a text that begins with another byte than that of a byte order mark
strip-other : (a : ℕ) (rest : List ℕ) → (a == 239) ≡ false → strip_bom (a ∷ rest) ≡ a ∷ rest
unfolding strip_bom
strip-other a [] e = refl
strip-other a (b ∷ []) e = refl
strip-other a (b ∷ c ∷ rest) e = rw e refl

-- a plain heading begins with no byte order mark
strip-plain : (heading rows : List (List ℕ)) → are_plain heading ≡ true → strip_bom (rows_text heading rows) ≡ rows_text heading rows
unfolding rows_text
strip-plain [] rows h = cc h
strip-plain ([] ∷ words) rows h =
    let none : false ≡ true = (and_parts (not (length ([] ∷ words) == 0)) (list_all is_plain ([] ∷ words)) h).1 in
    cc none
strip-plain ((b ∷ word) ∷ words) rows h = by words (strip-first words h)
  where
    strip-first : (words : List (List ℕ)) → are_plain ((b ∷ word) ∷ words) ≡ true → (b == 239) ≡ false
    strip-first words h =
        let all = and_parts (not (length ((b ∷ word) ∷ words) == 0)) (list_all is_plain ((b ∷ word) ∷ words)) h in
        let first = and_parts (is_plain (b ∷ word)) (list_all is_plain words) all.1 in
        let bytes = and_parts (not (length (b ∷ word) == 0)) (list_all is_plain_byte (b ∷ word)) first.0 in
        let byte = and_parts (is_plain_byte b) (list_all is_plain_byte word) bytes.1 in
        let parts = plain-parts b byte.0 in
        ne_eqb b 239 (λ e. absurd (omega (arith, parts.1, e)))

    by : (words : List (List ℕ)) → (b == 239) ≡ false → strip_bom (line_of ((b ∷ word) ∷ words) ++ flat_map row_line rows) ≡ line_of ((b ∷ word) ∷ words) ++ flat_map row_line rows
    by [] e = strip-other b _ e
    by (next ∷ words) e = strip-other b _ e

-- what is written reads back
pub rows_text-reads : (width : ℕ) (heading rows : List (List ℕ)) → are_plain heading ≡ true → length heading ≡ width → 0 < width → All (IsRow width) rows → Rows (rows_text heading rows) width rows
unfolding rows_text Reached next_record
rows_text-reads width heading rows plain is lt h =
    let lines : List ℕ = flat_map row_line rows in
    let first : Reached default_config st.StartRecord (strip_bom (rows_text heading rows)) (heading ∷ map (map decimal) rows) st.StartRecord [] =
    rw (strip-plain heading rows plain)
    ((read_back heading, st.StartRecord, lines), line-read heading (line_of heading) lines (row_text-plain heading plain), sym (back-some heading (omega (arith, is))), lines-reached width rows lt h) in
    record { heading = heading; rows = map (map decimal) rows; records_are = (st.StartRecord, [], first, refl); numbers_are = rows-read width rows h }
