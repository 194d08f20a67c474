-- Laws of texts of numbers.
--     RowsAgree       the bytes of a text fix its rows
--     RowsKeepRules   a text that reads as rows breaks no rule
--     OneFirstFault   a text has one first fault at most
use Rattle.std.specs.Prelude.{◌≡◌, ◌≢◌, ℕ, List}
use Rattle.csv_numbers.specs.Rows.{FirstFault, Rows}
use Rattle.csv_numbers.specs.declared.fault.CsvFault.{CsvFault}
use Rattle.csv_numbers.specs.declared.fault.CsvFault.TheVariants as fault

-- The bytes of a text, and the width of its rows, fix the rows.
abbrev pub RowsAgree : Type 0
RowsAgree = (bytes : List ℕ) (width : ℕ) (one other : List (List ℕ)) → Rows bytes width one → Rows bytes width other → one ≡ other

-- A text that reads as rows has no first fault but want of memory.
abbrev pub RowsKeepRules : Type 0
RowsKeepRules =
    (bytes : List ℕ) (width : ℕ) (rows : List (List ℕ)) → Rows bytes width rows → (e : CsvFault) → e ≢ fault.Memory → ¬ FirstFault bytes width e

-- A text has at most one first fault, beside want of memory.
abbrev pub OneFirstFault : Type 0
OneFirstFault =
    (bytes : List ℕ) (width : ℕ) (one other : CsvFault) → one ≢ fault.Memory → other ≢ fault.Memory → FirstFault bytes width one → FirstFault bytes width other → one ≡ other
