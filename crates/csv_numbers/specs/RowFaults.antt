-- What the reader's own steps say of a field and of a row.
--     IsFaultOf text fault              why the text spells no number of 64 bits
--     RowBreaks width fault fields      the rule that the row breaks
--     NamesRow row fault                the fault names this row
--     AppendsRow width fields old new   the numbers that the fields spell stand behind those that were there
use Rattle.std.specs.Prelude.{◌≡◌, ◌++◌, ℕ, List, ⊤}
use Rattle.csv_numbers.specs.Fields.{IsNumber, IsTooBig}
use Rattle.csv_numbers.specs.Rows.{FirstBadField, HasOtherWidth, Record, RowReads}
use Rattle.csv_numbers.specs.declared.fault.CsvFault.{CsvFault}
use Rattle.csv_numbers.specs.declared.fault.CsvFault.TheVariants as fault
use Rattle.csv_numbers.specs.declared.field.NumberFault.{NumberFault}
use Rattle.csv_numbers.specs.declared.field.NumberFault.TheVariants as number

-- why the text spells no number of 64 bits
abbrev pub IsFaultOf : List ℕ → NumberFault → Type 0
IsFaultOf text number.NotNumber = ¬ IsNumber text
IsFaultOf text number.TooBig = IsTooBig text

-- the rule that a row breaks: its width, or else its first field that spells no number
abbrev pub RowBreaks : ℕ → CsvFault → Record → Type 0
RowBreaks width fault.NoHeading fields = ⊥
RowBreaks width (fault.Width row found) fields = HasOtherWidth width found fields
RowBreaks width (fault.NotNumber row column) fields = FirstBadField width column (λ text. ¬ IsNumber text) fields
RowBreaks width (fault.TooBig row column) fields = FirstBadField width column IsTooBig fields
RowBreaks width fault.Memory fields = ⊤

-- the fault names this row, if it names one
abbrev pub NamesRow : ℕ → CsvFault → Type 0
NamesRow row fault.NoHeading = ⊥
NamesRow row (fault.Width r found) = r ≡ row
NamesRow row (fault.NotNumber r column) = r ≡ row
NamesRow row (fault.TooBig r column) = r ≡ row
NamesRow row fault.Memory = ⊤

-- the numbers of a row of this width stand behind those that were there
pub record AppendsRow (width : ℕ) (fields : Record) (old new : List ℕ) : Type 0 where
  pub row : List ℕ
  pub reads : RowReads width fields row
  pub appended : new ≡ old ++ row
