-- A file of edits has one first broken rule.
use Rattle.std.proofs.Common.{◌≡◌, ◌≢◌, ◌<◌, ◌+◌, ◌++◌, ◌∷◌, ◌∙◌, ◌⊎◌, inl, inr, ℕ, List, length, arith, refl, sym, ap, ap₂, subst}
use Rattle.std.specs.List.{AllZip}
use Rattle.std.proofs.lemmas.Bool.{cases_lt}
use Rattle.csv_numbers.specs.Rows.{FirstFault}
use Rattle.csv_numbers.specs.declared.fault.CsvFault.{CsvFault}
use Rattle.csv_numbers.specs.declared.fault.CsvFault.TheVariants as csv
use Rattle.csv_numbers.specs.Laws.{OneFirstFault, RowsAgree, RowsKeepRules}
use Rattle.lists.proofs.Elements.{zip-middle}
use Rattle.lists.proofs.Splits.{front-within, fronts-same}
use Rattle.job_model.specs.Table.{Table}
use Rattle.side_csv.specs.EditFaults.{FirstEditFault, FirstOutsideCost, ReachedEditRow}
use Rattle.side_csv.specs.EditsText.{GivesEdit}
use Rattle.side_csv.specs.Laws.{OneEditFault}
use Rattle.side_csv.specs.PrecedenceFaults.{IsKnown}
use Rattle.side_csv.specs.RowPerJob.{ids_of}
use Rattle.side_csv.specs.declared.edits.JobEdit.{JobEdit}
use Rattle.side_csv.specs.declared.fault.SideFault.{SideFault}
use Rattle.side_csv.specs.declared.fault.SideFault.TheVariants as fault
use Rattle.side_csv.proofs.EditLemmas.{cost-inside}
use Rattle.side_csv.proofs.RowLemmas.{names-contained}

-- the row of this number breaks the rule
abbrev Breaks : Table → ℕ → List ℕ → SideFault → Type 0
Breaks table p here (fault.Csv e) = ⊥
Breaks table p here (fault.Unknown row column) = (row ≡ p) × (column ≡ 1) × (¬ IsKnown table (ids_of here))
Breaks table p here (fault.Missing j) = ⊥
Breaks table p here (fault.Twice row earlier) = ⊥
Breaks table p here (fault.Outside row column) = (row ≡ p) × IsKnown table (ids_of here) × FirstOutsideCost here column
Breaks table p here fault.Memory = ⊥

-- a row that was reached breaks the rule
record BadRow (table : Table) (bytes : List ℕ) (e : SideFault) : Type 0 where
  pub row : ℕ
  pub reached : ReachedEditRow table bytes row
  pub breaks : Breaks table row reached.here e

-- a row that gives an edit breaks no rule
no-break : (table : Table) (p : ℕ) (here : List ℕ) (edit : JobEdit) (e : SideFault) → GivesEdit table here edit → Breaks table p here e → ⊥
no-break table p here edit (fault.Csv e) gives breaks = breaks
no-break table p here edit (fault.Unknown row column) gives breaks = breaks.2 (names-contained table here edit.job gives.names)
no-break table p here edit (fault.Missing j) gives breaks = breaks
no-break table p here edit (fault.Twice row earlier) gives breaks = breaks
no-break table p here edit (fault.Outside row column) gives breaks = cost-inside here column gives.may_cost breaks.2
no-break table p here edit fault.Memory gives breaks = breaks

-- a row has one leftmost cost that no job may have
one-column : (here : List ℕ) (c d : ℕ) → FirstOutsideCost here c → FirstOutsideCost here d → c ≡ d
one-column here c d (inl a) (inl b) = a.0 ∙ sym b.0
one-column here c d (inl a) (inr b) = absurd (a.1 b.1)
one-column here c d (inr a) (inl b) = absurd (b.1 a.1)
one-column here c d (inr a) (inr b) = a.0 ∙ sym b.0

-- a row breaks one rule first
one-break : (table : Table) (p : ℕ) (here : List ℕ) (e f : SideFault) → Breaks table p here e → Breaks table p here f → e ≡ f
one-break table p here (fault.Csv c) f a b = absurd a
one-break table p here (fault.Missing j) f a b = absurd a
one-break table p here (fault.Twice r k) f a b = absurd a
one-break table p here fault.Memory f a b = absurd a
one-break table p here (fault.Unknown r c) (fault.Csv d) a b = absurd b
one-break table p here (fault.Unknown r c) (fault.Missing j) a b = absurd b
one-break table p here (fault.Unknown r c) (fault.Twice s l) a b = absurd b
one-break table p here (fault.Unknown r c) fault.Memory a b = absurd b
one-break table p here (fault.Unknown r c) (fault.Unknown s d) a b = ap₂ fault.Unknown (a.0 ∙ sym b.0) (a.1 ∙ sym b.1)
one-break table p here (fault.Unknown r c) (fault.Outside s d) a b = absurd (a.2 b.1)
one-break table p here (fault.Outside r c) (fault.Csv d) a b = absurd b
one-break table p here (fault.Outside r c) (fault.Missing j) a b = absurd b
one-break table p here (fault.Outside r c) (fault.Twice s l) a b = absurd b
one-break table p here (fault.Outside r c) fault.Memory a b = absurd b
one-break table p here (fault.Outside r c) (fault.Unknown s d) a b = absurd (b.2 a.1)
one-break table p here (fault.Outside r c) (fault.Outside s d) a b = ap₂ fault.Outside (a.0 ∙ sym b.0) (one-column here c d a.2 b.2)

module _ (agree : RowsAgree) (keep : RowsKeepRules) (one : OneFirstFault) (table : Table) (bytes : List ℕ) where
  -- two rows that are reached split the same rows
  rows-split : (p q : ℕ) (r : ReachedEditRow table bytes p) (s : ReachedEditRow table bytes q) → r.before ++ r.here ∷ r.after ≡ s.before ++ s.here ∷ s.after
  rows-split p q r s = agree bytes 5 (r.before ++ r.here ∷ r.after) (s.before ++ s.here ∷ s.after) r.rows_are s.rows_are

  -- the rows before one that was reached break no rule
  row-earlier : (e f : SideFault) (a : BadRow table bytes e) (b : BadRow table bytes f) → length a.reached.before < length b.reached.before → ⊥
  row-earlier e f a b less =
      let r = a.reached in
      let s = b.reached in
      let (tail, is) = front-within r.before r.here r.after s.before s.here s.after (rows-split a.row b.row r s) less in
      let (edit, gives) = zip-middle (GivesEdit table) r.before r.here tail s.edits (subst (λ l. AllZip (GivesEdit table) l s.edits) is s.given) in
      no-break table a.row r.here edit e gives a.breaks

  one-row : (e f : SideFault) (a : BadRow table bytes e) (b : BadRow table bytes f) → length a.reached.before ≡ length b.reached.before → e ≡ f
  one-row e f a b long =
      let r = a.reached in
      let s = b.reached in
      let items = (fronts-same r.before r.here r.after s.before s.here s.after (rows-split a.row b.row r s) long).1 in
      let place : b.row ≡ a.row = s.place ∙ ap (λ n. n + 1) (sym long) ∙ sym r.place in
      let there : Breaks table a.row s.here f = subst (λ p. Breaks table p s.here f) place b.breaks in
      let here : Breaks table a.row r.here f = subst (λ x. Breaks table a.row x f) (sym items) there in
      one-break table a.row r.here e f a.breaks here

  one-bad-row : (e f : SideFault) → BadRow table bytes e → BadRow table bytes f → e ≡ f
  one-bad-row e f a b = elim (cases_lt (length a.reached.before) (length b.reached.before)) [
    | inl less ↦ absurd (row-earlier e f a b less)
    | inr more ↦ elim (cases_lt (length b.reached.before) (length a.reached.before)) [
      | inl less ↦ absurd (row-earlier f e b a less)
      | inr other ↦ one-row e f a b (omega (arith, more, other))
    ]
  ]

  -- a first broken rule is one of CSV, or all rows are numbers and one is bad
  record OfCsv (e : SideFault) : Type 0 where
    pub csv_fault : CsvFault
    pub is : e ≡ fault.Csv csv_fault
    pub other : csv_fault ≢ csv.Memory
    pub first : FirstFault bytes 5 csv_fault

  kind : (e : SideFault) → e ≢ fault.Memory → FirstEditFault table bytes e → OfCsv e ⊎ BadRow table bytes e
  kind (fault.Csv c) other a = inl (record { csv_fault = c; is = refl; other = a.0; first = a.1 })
  kind (fault.Unknown row column) other a = inr (record { row = row; reached = a.0; breaks = (refl, a.1, a.2) })
  kind (fault.Missing j) other a = absurd a
  kind (fault.Twice row earlier) other a = absurd a
  kind (fault.Outside row column) other a = inr (record { row = row; reached = a.0; breaks = (refl, a.1, a.2) })
  kind fault.Memory other a = absurd (other refl)

  -- where the rows are numbers, no rule of CSV is broken
  csv-alone : (e f : SideFault) → OfCsv e → BadRow table bytes f → ⊥
  csv-alone e f a b = keep bytes 5 (b.reached.before ++ b.reached.here ∷ b.reached.after) b.reached.rows_are a.csv_fault a.other a.first

  one-kind : (e f : SideFault) → OfCsv e ⊎ BadRow table bytes e → OfCsv f ⊎ BadRow table bytes f → e ≡ f
  one-kind e f (inl a) (inl b) = a.is ∙ ap fault.Csv (one bytes 5 a.csv_fault b.csv_fault a.other b.other a.first b.first) ∙ sym b.is
  one-kind e f (inl a) (inr b) = absurd (csv-alone e f a b)
  one-kind e f (inr a) (inl b) = absurd (csv-alone f e b a)
  one-kind e f (inr a) (inr b) = one-bad-row e f a b

  one-fault : (e f : SideFault) → e ≢ fault.Memory → f ≢ fault.Memory → FirstEditFault table bytes e → FirstEditFault table bytes f → e ≡ f
  one-fault e f e_other f_other a b = one-kind e f (kind e e_other a) (kind f f_other b)

pub one_edit_fault : RowsAgree → RowsKeepRules → OneFirstFault → OneEditFault
one_edit_fault agree keep one table bytes e f = one-fault agree keep one table bytes e f
