-- A text has one first fault.
use Rattle.std.proofs.Common.{◌≡◌, ◌≢◌, ◌<◌, ◌≤◌, ◌++◌, ◌∷◌, ◌∙◌, ◌⊎◌, inl, inr, [], ℕ, List, length, arith, refl, sym, ap₂, subst, append_assoc, length-append}
use Rattle.std.specs.List.{AllZip}
use Rattle.std.proofs.lemmas.Bool.{cases_lt}
use Rattle.csv.specs.Reading.{default_config, strip_bom}
use Rattle.csv.specs.declared.parser.State.TheVariants as st
use Rattle.csv_numbers.specs.Fields.{IsNumber, IsTooBig, Spells, bare}
use Rattle.csv_numbers.specs.Laws.{OneFirstFault}
use Rattle.csv_numbers.specs.RowFaults.{NamesRow, RowBreaks}
use Rattle.csv_numbers.specs.Rows.{FirstBadField, FirstBadRow, FirstFault, Record, Records, RowReads}
use Rattle.csv_numbers.specs.declared.fault.CsvFault.{CsvFault}
use Rattle.csv_numbers.specs.declared.fault.CsvFault.TheVariants as fault
use Rattle.csv_numbers.proofs.RowsKeepRules.{row-reads}
use Rattle.csv_numbers.proofs.TextRecords.{begins-front, reached-front}
use Rattle.lists.proofs.Elements.{zip-middle}
use Rattle.lists.proofs.Splits.{front-within, fronts-same}

-- what no text that spells a number is
abbrev IsApart : (List ℕ → Type 0) → Type 0
IsApart Broken = (text : List ℕ) (n : ℕ) → Spells text n → Broken text → ⊥

no-number : IsApart (λ text. ¬ IsNumber text)
no-number text n spells broken = broken spells.digits

too-big : IsApart IsTooBig
too-big text n spells broken = omega (arith, spells.value, spells.fits, broken.big)

-- the field before a first bad field spells a number
field-earlier : (A B : List ℕ → Type 0) (width c d : ℕ) (fields : Record) → IsApart A → (a : FirstBadField width c A fields) (b : FirstBadField width d B fields)
    → length a.before < length b.before → ⊥
field-earlier A B width c d fields apart a b less =
    let (tail, is) = front-within a.before a.field a.after b.before b.field b.after (sym a.fields_are ∙ b.fields_are) less in
    let (n, spells) = zip-middle (λ f n. Spells (bare f) n) a.before a.field tail b.numbers (subst (λ l. AllZip (λ f n. Spells (bare f) n) l b.numbers) is b.numbers_are) in
    apart (bare a.field) n spells a.broken

-- a record has one first bad field
one-field : (A B : List ℕ → Type 0) (width c d : ℕ) (fields : Record) → IsApart A → IsApart B → (a : FirstBadField width c A fields) (b : FirstBadField width d B fields)
    → (c ≡ d) × (a.field ≡ b.field)
one-field A B width c d fields apart apart' a b = elim (cases_lt (length a.before) (length b.before)) [
  | inl less ↦ absurd (field-earlier A B width c d fields apart a b less)
  | inr more ↦ elim (cases_lt (length b.before) (length a.before)) [
    | inl less ↦ absurd (field-earlier B A width d c fields apart' b a less)
    | inr other ↦
        let long : length a.before ≡ length b.before = omega (arith, more, other) in
        (omega (arith, a.place, b.place, long), (fronts-same a.before a.field a.after b.before b.field b.after (sym a.fields_are ∙ b.fields_are) long).1)
  ]
]

-- a row breaks one rule first
one-break : (width p : ℕ) (e f : CsvFault) (fields : Record) → e ≢ fault.Memory → f ≢ fault.Memory → NamesRow p e → NamesRow p f → RowBreaks width e fields → RowBreaks width f fields → e ≡ f
one-break width p fault.NoHeading f fields e_other f_other e_at f_at a b = absurd a
one-break width p fault.Memory f fields e_other f_other e_at f_at a b = absurd (e_other refl)
one-break width p (fault.Width q found) fault.NoHeading fields e_other f_other e_at f_at a b = absurd b
one-break width p (fault.Width q found) fault.Memory fields e_other f_other e_at f_at a b = absurd (f_other refl)
one-break width p (fault.Width q found) (fault.Width r other) fields e_other f_other e_at f_at a b = ap₂ fault.Width (e_at ∙ sym f_at) (sym a.0 ∙ b.0)
one-break width p (fault.Width q found) (fault.NotNumber r column) fields e_other f_other e_at f_at a b = absurd (a.1 (sym a.0 ∙ b.width_is))
one-break width p (fault.Width q found) (fault.TooBig r column) fields e_other f_other e_at f_at a b = absurd (a.1 (sym a.0 ∙ b.width_is))
one-break width p (fault.NotNumber q c) fault.NoHeading fields e_other f_other e_at f_at a b = absurd b
one-break width p (fault.NotNumber q c) fault.Memory fields e_other f_other e_at f_at a b = absurd (f_other refl)
one-break width p (fault.NotNumber q c) (fault.Width r found) fields e_other f_other e_at f_at a b = absurd (b.1 (sym b.0 ∙ a.width_is))
one-break width p (fault.NotNumber q c) (fault.NotNumber r d) fields e_other f_other e_at f_at a b =
    ap₂ fault.NotNumber (e_at ∙ sym f_at) (one-field (λ text. ¬ IsNumber text) (λ text. ¬ IsNumber text) width c d fields no-number no-number a b).0
one-break width p (fault.NotNumber q c) (fault.TooBig r d) fields e_other f_other e_at f_at a b =
    let same = (one-field (λ text. ¬ IsNumber text) IsTooBig width c d fields no-number too-big a b).1 in
    absurd (a.broken (subst (λ t. IsNumber (bare t)) (sym same) b.broken.digits))
one-break width p (fault.TooBig q c) fault.NoHeading fields e_other f_other e_at f_at a b = absurd b
one-break width p (fault.TooBig q c) fault.Memory fields e_other f_other e_at f_at a b = absurd (f_other refl)
one-break width p (fault.TooBig q c) (fault.Width r found) fields e_other f_other e_at f_at a b = absurd (b.1 (sym b.0 ∙ a.width_is))
one-break width p (fault.TooBig q c) (fault.NotNumber r d) fields e_other f_other e_at f_at a b =
    let same = (one-field IsTooBig (λ text. ¬ IsNumber text) width c d fields too-big no-number a b).1 in
    absurd (b.broken (subst (λ t. IsNumber (bare t)) same a.broken.digits))
one-break width p (fault.TooBig q c) (fault.TooBig r d) fields e_other f_other e_at f_at a b =
    ap₂ fault.TooBig (e_at ∙ sym f_at) (one-field IsTooBig IsTooBig width c d fields too-big too-big a b).0

-- a first fault is that of a row, or there is no heading
record BadRow (bytes : List ℕ) (width : ℕ) (e : CsvFault) : Type 0 where
  pub row : ℕ
  pub names : NamesRow row e
  pub bad : FirstBadRow bytes width row (RowBreaks width e)

fault-kind : (bytes : List ℕ) (width : ℕ) (e : CsvFault) → e ≢ fault.Memory → FirstFault bytes width e → ((e ≡ fault.NoHeading) × Records bytes []) ⊎ BadRow bytes width e
fault-kind bytes width fault.NoHeading other first = inl (refl, first)
fault-kind bytes width fault.Memory other first = absurd (other refl)
fault-kind bytes width (fault.Width p found) other first = inr (record { row = p; names = refl; bad = first })
fault-kind bytes width (fault.NotNumber p column) other first = inr (record { row = p; names = refl; bad = first })
fault-kind bytes width (fault.TooBig p column) other first = inr (record { row = p; names = refl; bad = first })

-- a text with a bad row has a heading
heading-there : (bytes : List ℕ) (width : ℕ) (e : CsvFault) → BadRow bytes width e → Records bytes [] → ⊥
heading-there bytes width e b none =
    let (after, rest, reached) = b.bad.records_begin in
    let (s2, ys, reached-none, end) = none in
    let (tail, front) = reached-front default_config st.StartRecord after s2 (strip_bom bytes) rest ys (b.bad.heading ∷ b.bad.before ++ b.bad.fields ∷ []) [] reached reached-none end in
    cc front

-- the rows up to the earlier of two bad rows
rows-front : (bytes : List ℕ) (width : ℕ) (e f : CsvFault) (a : BadRow bytes width e) (b : BadRow bytes width f) → length a.bad.before ≤ length b.bad.before
    → (tail : List Record) × (b.bad.before ++ b.bad.fields ∷ [] ≡ a.bad.before ++ a.bad.fields ∷ tail)
rows-front bytes width e f a b le =
    let (after, rest, reached) = a.bad.records_begin in
    let (after', rest', reached') = b.bad.records_begin in
    let long : length (a.bad.heading ∷ a.bad.before ++ a.bad.fields ∷ []) ≤ length (b.bad.heading ∷ b.bad.before ++ b.bad.fields ∷ []) =
    omega (arith, le, length-append a.bad.before (a.bad.fields ∷ []), length-append b.bad.before (b.bad.fields ∷ [])) in
    let (tail, front) = begins-front default_config st.StartRecord after after' (strip_bom bytes) rest rest' (a.bad.heading ∷ a.bad.before ++ a.bad.fields ∷ []) (b.bad.heading ∷ b.bad.before ++ b.bad.fields ∷ []) reached reached' long in
    let same : b.bad.before ++ b.bad.fields ∷ [] ≡ (a.bad.before ++ a.bad.fields ∷ []) ++ tail = cc front in
    (tail, same ∙ append_assoc a.bad.before (a.bad.fields ∷ []) tail)

-- the rows before a first bad row are not bad
row-earlier : (bytes : List ℕ) (width : ℕ) (e f : CsvFault) → e ≢ fault.Memory → (a : BadRow bytes width e) (b : BadRow bytes width f) → length a.bad.before < length b.bad.before → ⊥
row-earlier bytes width e f other a b less =
    let (tail, same) = rows-front bytes width e f a b (omega (arith, less)) in
    let (rest, is) = front-within a.bad.before a.bad.fields tail b.bad.before b.bad.fields [] (sym same) less in
    let (n, reads) = zip-middle (RowReads width) a.bad.before a.bad.fields rest b.bad.numbers (subst (λ l. AllZip (RowReads width) l b.bad.numbers) is b.bad.numbers_are) in
    row-reads width e a.bad.fields n other reads a.bad.broken

-- one first bad row has one fault
one-row : (bytes : List ℕ) (width : ℕ) (e f : CsvFault) → e ≢ fault.Memory → f ≢ fault.Memory → (a : BadRow bytes width e) (b : BadRow bytes width f) → length a.bad.before ≡ length b.bad.before → e ≡ f
one-row bytes width e f e_other f_other a b long =
    let (tail, same) = rows-front bytes width e f a b (omega (arith, long)) in
    let (fronts, fields) = fronts-same a.bad.before a.bad.fields tail b.bad.before b.bad.fields [] (sym same) long in
    let place : b.row ≡ a.row = omega (arith, a.bad.place, b.bad.place, long) in
    one-break width a.row e f a.bad.fields e_other f_other a.names (subst (λ p. NamesRow p f) place b.names) a.bad.broken (subst (RowBreaks width f) (sym fields) b.bad.broken)

one-bad-row : (bytes : List ℕ) (width : ℕ) (e f : CsvFault) → e ≢ fault.Memory → f ≢ fault.Memory → BadRow bytes width e → BadRow bytes width f → e ≡ f
one-bad-row bytes width e f e_other f_other a b = elim (cases_lt (length a.bad.before) (length b.bad.before)) [
  | inl less ↦ absurd (row-earlier bytes width e f e_other a b less)
  | inr more ↦ elim (cases_lt (length b.bad.before) (length a.bad.before)) [
    | inl less ↦ absurd (row-earlier bytes width f e f_other b a less)
    | inr other ↦ one-row bytes width e f e_other f_other a b (omega (arith, more, other))
  ]
]

-- a text has at most one first fault
pub one_first_fault : OneFirstFault
one_first_fault bytes width e f e_other f_other first first' = elim (fault-kind bytes width e e_other first) [
  | inl none ↦ elim (fault-kind bytes width f f_other first') [
    | inl none' ↦ none.0 ∙ sym none'.0
    | inr b ↦ absurd (heading-there bytes width f b none.1)
  ]
  | inr a ↦ elim (fault-kind bytes width f f_other first') [
    | inl none' ↦ absurd (heading-there bytes width e a none'.1)
    | inr b ↦ one-bad-row bytes width e f e_other f_other a b
  ]
]
