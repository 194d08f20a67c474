-- What a CSV text reads as: a heading, and rows of numbers of one width.
--     Records bytes records           these are all the records of the text
--     Begins bytes records            the records of the text begin with these
--     Reads fields numbers            each field spells its number
--     RowReads width fields numbers   a record of this width, and its numbers
--     Rows bytes width numbers        the text is a heading, and a row of this width for each list of numbers
--     FirstBadField ..                the first field of a record that breaks a rule
--     FirstBadRow ..                  the first row of a text that breaks a rule
--     FirstFault bytes width fault    the first rule that the text breaks
-- Records are those that `csv` states with its defaults, without a byte order mark at the start of the text.
use Rattle.std.specs.Prelude.{◌≡◌, ◌≢◌, ◌+◌, ◌++◌, ◌∷◌, [], ℕ, List, length, ⊤}
use Rattle.std.specs.List.{AllZip}
use Rattle.csv.specs.Reading.{AreRecords, Reached, default_config, strip_bom}
use Rattle.csv.specs.declared.parser.State.{State}
use Rattle.csv.specs.declared.parser.State.TheVariants as st
use Rattle.csv_numbers.specs.Fields.{IsNumber, IsTooBig, Spells, bare}
use Rattle.csv_numbers.specs.declared.fault.CsvFault.{CsvFault}
use Rattle.csv_numbers.specs.declared.fault.CsvFault.TheVariants as fault

-- a record is the list of its fields
abbrev pub Record : Type 0
Record = List (List ℕ)

-- these are all the records of a text
abbrev pub Records : List ℕ → List Record → Type 0
Records bytes = AreRecords default_config st.StartRecord (strip_bom bytes)

-- the records of a text begin with these
abbrev pub Begins : List ℕ → List Record → Type 0
Begins bytes records = (after : State) × (rest : List ℕ) × Reached default_config st.StartRecord (strip_bom bytes) records after rest

-- each field, without the blanks at its ends, spells its number
abbrev pub Reads : Record → List ℕ → Type 0
Reads = AllZip (λ field n. Spells (bare field) n)

-- a record of this width, and its numbers
pub record RowReads (width : ℕ) (fields : Record) (numbers : List ℕ) : Type 0 where
  pub width_is : length fields ≡ width
  pub numbers_are : Reads fields numbers

-- the records are a heading, whatever it holds, and then a row of this width for each list of numbers
pub record Rows (bytes : List ℕ) (width : ℕ) (numbers : List (List ℕ)) : Type 0 where
  pub heading : Record
  pub rows : List Record
  pub records_are : Records bytes (heading ∷ rows)
  pub numbers_are : AllZip (RowReads width) rows numbers

-- The record has the width, its fields before this column spell numbers, and the field there is broken.
-- Columns are counted from 1.
pub record FirstBadField (width column : ℕ) (Broken : List ℕ → Type 0) (fields : Record) : Type 0 where
  pub before : Record
  pub numbers : List ℕ
  pub field : List ℕ
  pub after : Record
  pub width_is : length fields ≡ width
  pub fields_are : fields ≡ before ++ field ∷ after
  pub numbers_are : Reads before numbers
  pub place : column ≡ length before + 1
  pub broken : Broken (bare field)

-- The rows before this one read as numbers, and this row is broken. Rows are counted from 1, after the heading.
pub record FirstBadRow (bytes : List ℕ) (width row : ℕ) (Broken : Record → Type 0) : Type 0 where
  pub heading : Record
  pub before : List Record
  pub numbers : List (List ℕ)
  pub fields : Record
  pub records_begin : Begins bytes (heading ∷ before ++ fields ∷ [])
  pub numbers_are : AllZip (RowReads width) before numbers
  pub place : row ≡ length before + 1
  pub broken : Broken fields

-- the record has this many fields, which is not the width
abbrev pub HasOtherWidth : ℕ → ℕ → Record → Type 0
HasOtherWidth width found fields = (length fields ≡ found) × (found ≢ width)

-- The first rule that a text breaks: it has a heading; then by row the width, and by column digits and 64 bits.
-- Want of memory may come at any text.
abbrev pub FirstFault : List ℕ → ℕ → CsvFault → Type 0
FirstFault bytes width fault.NoHeading = Records bytes []
FirstFault bytes width (fault.Width row found) = FirstBadRow bytes width row (HasOtherWidth width found)
FirstFault bytes width (fault.NotNumber row column) = FirstBadRow bytes width row (FirstBadField width column (λ text. ¬ IsNumber text))
FirstFault bytes width (fault.TooBig row column) = FirstBadRow bytes width row (FirstBadField width column IsTooBig)
FirstFault bytes width fault.Memory = ⊤
