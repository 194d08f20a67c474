-- The fields of a record in turn, and the records of a text in turn.
use Rattle.std.proofs.Common.{Bor, ◌≡◌, ◌≤◌, ◌<◌, ◌+◌, ◌*◌, ◌++◌, ◌∷◌, ◌∙◌, [], inl, inr, Bool, true, false, ℕ, zero, suc, List, Option, Some, None, length, take, drop, add-one, arith, length-append, refl, sym, ap}
use Rattle.std.specs.List.{All, AllZip}
use Rattle.std.proofs.Math.Nat.{suc-mul, zero-mul}
use Rattle.std.proofs.lemmas.List.{length-take-le}
use Rattle.std.proofs.lemmas.Slice.Zip.{all_zipped_more}
use Rattle.csv.proofs.ReadFacts.{rows-end, rows-more}
use Rattle.csv.specs.Reading.{ReadRecord, Reached, default_config, names_headers, reader_config, reader_headers, reader_state, reader_trim, source_of, strip_bom, took_first}
use Rattle.csv.specs.Records.{field_at}
use Rattle.csv.specs.declared.parser.State.TheVariants as st
use Rattle.csv.specs.declared.reader.Trim.TheVariants as trim
use Rattle.lists.proofs.Elements.{zip-long}
use Rattle.csv_numbers.specs.Fields.{Spells, bare}
use Rattle.csv_numbers.specs.FlatRows.{flat_rows}
use Rattle.csv_numbers.specs.RowFaults.{AppendsRow, NamesRow, RowBreaks}
use Rattle.csv_numbers.specs.Rows.{Begins, FirstBadField, FirstBadRow, FirstFault, Reads, Record, Records, RowReads, Rows}
use Rattle.csv_numbers.specs.Streams.{BytesReader, GivesNext, HasGiven}
use Rattle.csv_numbers.specs.declared.fault.CsvFault.{CsvFault}
use Rattle.csv_numbers.specs.declared.fault.CsvFault.TheVariants as fault
use Rattle.csv_numbers.proofs.FlatLemmas.{flat_rows-push, length-flat_rows}

-- a record's fields, around the one at a place
field-split : (fs : Record) (i : ℕ) (f : List ℕ) → Some f ≡ field_at fs i → fs ≡ take i fs ++ f ∷ drop (suc i) fs
unfolding field_at
field-split [] i f e = cc e
field-split (x ∷ fs) zero f e = let same : f ≡ x = cc e in rw same refl
field-split (x ∷ fs) (suc i) f e = ap (λ (l : Record). x ∷ l) (field-split fs i f e)

-- one more field
pub field-take : (fs : Record) (i : ℕ) (f : List ℕ) → Some f ≡ field_at fs i → take (suc i) fs ≡ take i fs ++ f ∷ []
unfolding field_at
field-take [] i f e = cc e
field-take (x ∷ fs) zero f e = let same : f ≡ x = cc e in rw same refl
field-take (x ∷ fs) (suc i) f e = ap (λ (l : Record). x ∷ l) (field-take fs i f e)

-- no field stands past the last
pub field-none : (fs : Record) (i : ℕ) → None ≡ field_at fs i → length fs ≤ i
unfolding field_at
field-none [] i e = omega arith
field-none (x ∷ fs) zero e = cc e
field-none (x ∷ fs) (suc i) e = let rest = field-none fs i e in omega arith

-- a row that reads as numbers has as many
pub row-wide : (width : ℕ) (fields : Record) (numbers : List ℕ) → RowReads width fields numbers → length numbers ≡ width
row-wide width fields numbers reads = sym (zip-long (λ field k. Spells (bare field) k) fields numbers reads.numbers_are) ∙ reads.width_is

-- the bytes that a slice in memory has
abbrev unread_bytes : Bor (List ℕ) → Option (List ℕ)
unread_bytes s = Some s.now

-- a reader that has given no record yet
pub gives-none : (bytes : List ℕ) (reader : BytesReader) → reader_trim reader ≡ trim.None → names_headers reader ≡ false → reader_headers reader ≡ None
    → reader_config reader ≡ default_config → reader_state reader ≡ st.StartRecord → source_of unread_bytes reader ≡ Some (strip_bom bytes) → HasGiven bytes [] reader
unfolding Reached
gives-none bytes reader trims unnamed none config start source = record {
  trims = trims;
  ready = inr (inr (unnamed, none));
  config = config;
  unread = strip_bom bytes;
  source = source;
  reached = (sym start, refl);
}

-- one read more
pub gives-next : (bytes : List ℕ) (records : List Record) (a b : BytesReader) (found : Bool) (fields : Record) → HasGiven bytes records a
    → ReadRecord unread_bytes a b found fields → took_first b ≡ true → GivesNext bytes records found fields b
gives-next bytes records a b true fields g read first =
    let (unread, source, reached) = rows-more unread_bytes a b fields default_config st.StartRecord (strip_bom bytes) g.unread records g.config g.source g.reached read in
    record { trims = read.3 ∙ g.trims; ready = inl first; config = read.2 ∙ g.config; unread = unread; source = source; reached = reached }
gives-next bytes records a b false fields g read first =
    (reader_state a, g.unread, g.reached, rows-end unread_bytes a b fields default_config g.unread g.config g.source read)

-- the numbers of the row so far, behind those that were there
pub record RowSoFar (fields : Record) (column : ℕ) (old new : List ℕ) : Type 0 where
  pub row : List ℕ
  pub reads : Reads (take column fields) row
  pub appended : new ≡ old ++ row

-- the next field of the row is broken
pub bad-field : (Broken : List ℕ → Type 0) (width : ℕ) (fields : Record) (column : ℕ) (field old new : List ℕ) → length fields ≡ width → column < width
    → Some field ≡ field_at fields column → RowSoFar fields column old new → Broken (bare field) → FirstBadField width (column + 1) Broken fields
bad-field Broken width fields column field old new wide below here so_far broken =
    let before : length (take column fields) ≡ column = length-take-le column fields (omega (arith, wide, below)) in
    record {
      before = take column fields;
      numbers = so_far.row;
      field = field;
      after = drop (suc column) fields;
      width_is = wide;
      fields_are = field-split fields column field here;
      numbers_are = so_far.reads;
      place = omega (arith, before);
      broken = broken;
    }

-- the reader has given a heading and these rows
pub record RowsSoFar (bytes : List ℕ) (width count : ℕ) (reader : BytesReader) (numbers : List ℕ) : Type 0 where
  pub heading : Record
  pub good : List Record
  pub given : HasGiven bytes (heading ∷ good) reader
  pub reads : AllZip (RowReads width) good (flat_rows width count numbers)
  pub flat : length numbers ≡ count * width

-- no row so far
pub rows-begin : (bytes : List ℕ) (width : ℕ) (reader : BytesReader) (fields : Record) → HasGiven bytes (fields ∷ []) reader → RowsSoFar bytes width 0 reader []
unfolding flat_rows
rows-begin bytes width reader fields given = record { heading = fields; good = []; given = given; reads = tt; flat = sym (zero-mul width) }

-- one more row
pub rows-more-read : (bytes : List ℕ) (width count : ℕ) (a b : BytesReader) (old new : List ℕ) (fields : Record) → (u : RowsSoFar bytes width count a old)
    → HasGiven bytes (u.heading ∷ u.good ++ fields ∷ []) b → AppendsRow width fields old new → RowsSoFar bytes width (count + 1) b new
rows-more-read bytes width count a b old new fields u given more =
    let wide : length more.row ≡ width = row-wide width fields more.row more.reads in
    record {
      heading = u.heading;
      good = u.good ++ fields ∷ [];
      given = given;
      reads = rw (add-one, more.appended, flat_rows-push width count old more.row u.flat wide)
          (all_zipped_more (RowReads width) u.good (flat_rows width count old) fields more.row u.reads more.reads);
      flat = rw more.appended (omega (arith, length-append old more.row, u.flat, wide, suc-mul count width));
    }

-- all rows were given
pub rows-all : (bytes : List ℕ) (width count : ℕ) (reader : BytesReader) (numbers : List ℕ) → (u : RowsSoFar bytes width count reader numbers)
    → Records bytes (u.heading ∷ u.good) → Rows bytes width (flat_rows width count numbers)
rows-all bytes width count reader numbers u all = record { heading = u.heading; rows = u.good; records_are = all; numbers_are = u.reads }

-- the next row breaks a rule
pub rows-bad : (bytes : List ℕ) (width count : ℕ) (a b : BytesReader) (numbers : List ℕ) (fields : Record) (e : CsvFault) → (u : RowsSoFar bytes width count a numbers)
    → HasGiven bytes (u.heading ∷ u.good ++ fields ∷ []) b → RowBreaks width e fields → NamesRow (count + 1) e → FirstFault bytes width e
rows-bad bytes width count a b numbers fields e u given breaks names = by e breaks names
  where
    begins : Begins bytes (u.heading ∷ u.good ++ fields ∷ [])
    begins = (reader_state b, given.unread, given.reached)

    bad : (row : ℕ) (Broken : Record → Type 0) → row ≡ count + 1 → Broken fields → FirstBadRow bytes width row Broken
    bad row Broken place broken = record {
      heading = u.heading;
      before = u.good;
      numbers = flat_rows width count numbers;
      fields = fields;
      records_begin = begins;
      numbers_are = u.reads;
      place = omega (arith, place, zip-long (RowReads width) u.good (flat_rows width count numbers) u.reads, length-flat_rows width count numbers);
      broken = broken;
    }

    by : (e : CsvFault) → RowBreaks width e fields → NamesRow (count + 1) e → FirstFault bytes width e
    by fault.NoHeading breaks names = absurd names
    by fault.Memory breaks names = tt
    by (fault.Width row found) breaks names = bad row _ names breaks
    by (fault.NotNumber row column) breaks names = bad row _ names breaks
    by (fault.TooBig row column) breaks names = bad row _ names breaks

-- the rows that are read have this width
pub rows-wide : (width : ℕ) (rows : List Record) (list : List (List ℕ)) → AllZip (RowReads width) rows list → All (λ row. length row ≡ width) list
rows-wide width [] [] h k d lt = absurd (omega arith)
rows-wide width [] (n ∷ list) h k d lt = absurd h
rows-wide width (r ∷ rows) [] h k d lt = absurd h
rows-wide width (r ∷ rows) (n ∷ list) h zero d lt = row-wide width r n h.0
rows-wide width (r ∷ rows) (n ∷ list) h (suc k) d lt = rows-wide width rows list h.1 k d (omega arith)
