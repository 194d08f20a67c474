-- A text reads as one list of rows.
use Rattle.std.proofs.Common.{◌≡◌, ◌∷◌, ◌∙◌, [], ℕ, List, refl, sym, ap₂, subst}
use Rattle.std.specs.List.{AllZip}
use Rattle.csv.specs.Reading.{default_config, strip_bom}
use Rattle.csv.specs.declared.parser.State.TheVariants as st
use Rattle.csv_numbers.specs.Laws.{RowsAgree}
use Rattle.csv_numbers.specs.Rows.{Reads, Record, RowReads}
use Rattle.csv_numbers.proofs.TextRecords.{reached-same}

-- fields spell one list of numbers
reads-same : (fields : Record) (ns ms : List ℕ) → Reads fields ns → Reads fields ms → ns ≡ ms
reads-same [] [] [] h a = refl
reads-same [] [] (m ∷ ms) h a = absurd a
reads-same [] (n ∷ ns) ms h a = absurd h
reads-same (f ∷ fields) [] ms h a = absurd h
reads-same (f ∷ fields) (n ∷ ns) [] h a = absurd a
reads-same (f ∷ fields) (n ∷ ns) (m ∷ ms) h a = ap₂ (λ (x : ℕ) (l : List ℕ). x ∷ l) (sym h.0.value ∙ a.0.value) (reads-same fields ns ms h.1 a.1)

-- rows read as one list of lists of numbers
rows-same : (width : ℕ) (rows : List Record) (ns ms : List (List ℕ)) → AllZip (RowReads width) rows ns → AllZip (RowReads width) rows ms → ns ≡ ms
rows-same width [] [] [] h a = refl
rows-same width [] [] (m ∷ ms) h a = absurd a
rows-same width [] (n ∷ ns) ms h a = absurd h
rows-same width (f ∷ rows) [] ms h a = absurd h
rows-same width (f ∷ rows) (n ∷ ns) [] h a = absurd a
rows-same width (f ∷ rows) (n ∷ ns) (m ∷ ms) h a =
    ap₂ (λ (x : List ℕ) (l : List (List ℕ)). x ∷ l) (reads-same f n m h.0.numbers_are a.0.numbers_are) (rows-same width rows ns ms h.1 a.1)

-- a text reads as one list of rows
pub rows_agree : RowsAgree
rows_agree bytes width one other h a =
    let (s2, ys, reached, end) = h.records_are in
    let (s3, zs, reached2, end2) = a.records_are in
    let both = reached-same default_config st.StartRecord s2 s3 (strip_bom bytes) ys zs (h.heading ∷ h.rows) (a.heading ∷ a.rows) reached end reached2 end2 in
    let same : h.rows ≡ a.rows = cc both in
    rows-same width a.rows one other (subst (λ (l : List Record). AllZip (RowReads width) l one) same h.numbers_are) a.numbers_are
