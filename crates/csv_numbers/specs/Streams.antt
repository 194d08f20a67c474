-- What a reader of `csv` has given so far.
--     BytesReader                                   a reader of bytes in memory
--     HasGiven bytes records reader                 the reader, over these bytes, has given these records
--     GivesNext bytes records found fields reader   it has given one more, or these were all
use Rattle.std.specs.Prelude.{◌≡◌, ◌++◌, ◌∷◌, [], Bool, true, false, ℕ, List, Some}
use Rattle.std.specs.Borrow.{Bor}
use Rattle.csv.specs.Reading.{Reached, Ready, default_config, reader_config, reader_state, reader_trim, source_of, strip_bom}
use Rattle.csv.specs.declared.parser.State.TheVariants as st
use Rattle.csv.specs.declared.reader.Reader.{Reader}
use Rattle.csv.specs.declared.reader.Trim.TheVariants as trim
use Rattle.csv_numbers.specs.Rows.{Record, Records}

-- a reader of bytes in memory
abbrev pub BytesReader : Type 0
BytesReader = Reader (Bor (List ℕ))

-- a reader of these bytes with the defaults of `csv`, but without headings, has given these records
pub record HasGiven (bytes : List ℕ) (records : List Record) (reader : BytesReader) : Type 0 where
  pub trims : reader_trim reader ≡ trim.None
  pub ready : Ready reader
  pub config : reader_config reader ≡ default_config
  pub unread : List ℕ
  pub source : source_of (λ s. Some s.now) reader ≡ Some unread
  pub reached : Reached default_config st.StartRecord (strip_bom bytes) records (reader_state reader) unread

-- the reader found one more record, which has these fields, or else it had given all
abbrev pub GivesNext : List ℕ → List Record → Bool → Record → BytesReader → Type 0
GivesNext bytes records true fields reader = HasGiven bytes (records ++ fields ∷ []) reader
GivesNext bytes records false fields reader = Records bytes records
