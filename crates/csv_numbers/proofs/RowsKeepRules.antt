-- A text that reads as rows breaks no rule.
use Rattle.std.proofs.Common.{◌≡◌, ◌≢◌, ◌++◌, ◌∷◌, ◌∙◌, [], ℕ, List, arith, refl, sym, append_assoc, subst}
use Rattle.std.specs.List.{AllZip}
use Rattle.csv.specs.Reading.{default_config, strip_bom}
use Rattle.csv.specs.declared.parser.State.TheVariants as st
use Rattle.csv_numbers.specs.Fields.{IsNumber, IsTooBig, Spells, bare}
use Rattle.csv_numbers.specs.Laws.{RowsKeepRules}
use Rattle.csv_numbers.specs.RowFaults.{RowBreaks}
use Rattle.csv_numbers.specs.Rows.{FirstBadField, FirstBadRow, FirstFault, Record, RowReads, Rows}
use Rattle.csv_numbers.specs.declared.fault.CsvFault.{CsvFault}
use Rattle.csv_numbers.specs.declared.fault.CsvFault.TheVariants as fault
use Rattle.csv_numbers.proofs.TextRecords.{reached-front}
use Rattle.lists.proofs.Elements.{zip-middle}

-- a row that reads as numbers has no broken field
field-reads : (Broken : List ℕ → Type 0) (width column : ℕ) (fields : Record) (numbers : List ℕ) → ((text : List ℕ) (n : ℕ) → Spells text n → Broken text → ⊥)
    → RowReads width fields numbers → FirstBadField width column Broken fields → ⊥
field-reads Broken width column fields numbers apart reads bad =
    let here = zip-middle (λ f n. Spells (bare f) n) bad.before bad.field bad.after numbers (rw bad.fields_are at reads.numbers_are) in
    apart (bare bad.field) here.0 here.1 bad.broken

-- a row that reads as numbers breaks no rule
pub row-reads : (width : ℕ) (e : CsvFault) (fields : Record) (numbers : List ℕ) → e ≢ fault.Memory → RowReads width fields numbers → RowBreaks width e fields → ⊥
row-reads width fault.NoHeading fields numbers other reads breaks = breaks
row-reads width fault.Memory fields numbers other reads breaks = other refl
row-reads width (fault.Width p found) fields numbers other reads breaks = breaks.1 (sym breaks.0 ∙ reads.width_is)
row-reads width (fault.NotNumber p column) fields numbers other reads breaks =
    field-reads (λ text. ¬ IsNumber text) width column fields numbers (λ text n spells broken. broken spells.digits) reads breaks
row-reads width (fault.TooBig p column) fields numbers other reads breaks =
    field-reads IsTooBig width column fields numbers (λ text n spells broken. omega (arith, spells.value, spells.fits, broken.big)) reads breaks

-- a text that reads as rows has no bad row
bad-row : (bytes : List ℕ) (width place : ℕ) (e : CsvFault) (list : List (List ℕ)) → e ≢ fault.Memory
    → FirstBadRow bytes width place (RowBreaks width e) → Rows bytes width list → ⊥
bad-row bytes width place e list other bad rows =
    let (after, rest, reached) = bad.records_begin in
    let (s3, zs, reached-all, end) = rows.records_are in
    let (tail, front) = reached-front default_config st.StartRecord after s3 (strip_bom bytes) rest zs (bad.heading ∷ bad.before ++ bad.fields ∷ []) (rows.heading ∷ rows.rows) reached reached-all end in
    let same : rows.rows ≡ (bad.before ++ bad.fields ∷ []) ++ tail = cc front in
    let zipped-there = subst (λ (l : List Record). AllZip (RowReads width) l list) (same ∙ append_assoc bad.before (bad.fields ∷ []) tail) rows.numbers_are in
    let (n, row) = zip-middle (RowReads width) bad.before bad.fields tail list zipped-there in
    row-reads width e bad.fields n other row bad.broken

-- a text that reads as rows has no first fault
pub no-fault : (bytes : List ℕ) (width : ℕ) (e : CsvFault) (list : List (List ℕ)) → e ≢ fault.Memory → FirstFault bytes width e → Rows bytes width list → ⊥
no-fault bytes width fault.NoHeading list other first rows =
    let (s2, ys, reached-none, end) = first in
    let (s3, zs, reached-all, end-all) = rows.records_are in
    let (tail, front) = reached-front default_config st.StartRecord s3 s2 (strip_bom bytes) zs ys (rows.heading ∷ rows.rows) [] reached-all reached-none end in
    cc front
no-fault bytes width fault.Memory list other first rows = other refl
no-fault bytes width (fault.Width p found) list other first rows = bad-row bytes width p (fault.Width p found) list other first rows
no-fault bytes width (fault.NotNumber p column) list other first rows = bad-row bytes width p (fault.NotNumber p column) list other first rows
no-fault bytes width (fault.TooBig p column) list other first rows = bad-row bytes width p (fault.TooBig p column) list other first rows

pub rows_keep_rules : RowsKeepRules
rows_keep_rules bytes width rows reads e other first = no-fault bytes width e rows other first reads
