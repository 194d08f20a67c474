-- A file with a row for each job has one first broken rule, and none where it gives each its item.
use Rattle.std.proofs.Common.{◌≡◌, ◌≢◌, ◌<◌, ◌+◌, ◌++◌, ◌∷◌, ◌∙◌, ◌⊎◌, inl, inr, [], ℕ, suc, List, Option, Some, length, map, take, drop, get_or, arith, refl, sym, ap, ap₂, subst, length-append, drop-cons}
use Rattle.std.specs.Prelude.{Contains}
use Rattle.std.proofs.lemmas.Bool.{cases_lt}
use Rattle.std.proofs.lemmas.List.{get_or_append_left, length-take-le, take-append-drop}
use Rattle.std.proofs.Math.Seq.{get_or-append_seam}
use Rattle.csv_numbers.specs.Rows.{FirstFault, Rows}
use Rattle.csv_numbers.specs.declared.fault.CsvFault.{CsvFault}
use Rattle.csv_numbers.specs.declared.fault.CsvFault.TheVariants as csv
use Rattle.csv_numbers.specs.Laws.{OneFirstFault, RowsAgree, RowsKeepRules}
use Rattle.lists.proofs.Splits.{front-within, fronts-same}
use Rattle.job_model.specs.Table.{IsTable, Table, id_of, job_at}
use Rattle.side_csv.specs.RowPerJob.{GivesEach, KeepRules, NamesJob, ids_of}
use Rattle.side_csv.specs.RowPerJobFaults.{FirstRowFault, MissingJob, ReachedRow, side_fault_of}
use Rattle.side_csv.specs.declared.fault.SideFault.{SideFault}
use Rattle.side_csv.specs.declared.fault.SideFault.TheVariants as fault
use Rattle.side_csv.proofs.ItemLemmas.{given-contained}
use Rattle.side_csv.proofs.RowLemmas.{contains-row, good-here, index-same, inside-named, names-contained, names-same}

-- the row of this number breaks the rule, after these rows
abbrev Breaks : (ℕ → List ℕ → Option ℕ) → Table → ℕ → List (List ℕ) → List ℕ → SideFault → Type 0
Breaks outside table p before here (fault.Csv e) = ⊥
Breaks outside table p before here (fault.Unknown row column) = (row ≡ p) × (column ≡ 1) × (¬ Contains (map id_of table.jobs) (ids_of here))
Breaks outside table p before here (fault.Missing j) = ⊥
Breaks outside table p before here (fault.Twice row earlier) = (row ≡ p) × (j : ℕ) × NamesJob table here j × (k : ℕ) × (k < length before) × (earlier ≡ k + 1) × NamesJob table (get_or before k []) j
Breaks outside table p before here (fault.Outside row column) =
    (row ≡ p) × (j : ℕ) × NamesJob table here j × (¬ Contains (map ids_of before) (ids_of here)) × (outside j here ≡ Some column)
Breaks outside table p before here fault.Memory = ⊥

-- a row that was reached breaks the rule
record BadRow (width : ℕ) (outside : ℕ → List ℕ → Option ℕ) (table : Table) (bytes : List ℕ) (e : SideFault) : Type 0 where
  pub row : ℕ
  pub reached : ReachedRow width outside table bytes row
  pub breaks : Breaks outside table row reached.before reached.here e

-- of rows that keep the rules none breaks one
no-break : (outside : ℕ → List ℕ → Option ℕ) (table : Table) → IsTable table → (p : ℕ) (before : List (List ℕ)) (here : List ℕ) (after : List (List ℕ)) (e : SideFault) → KeepRules outside table (before ++ here ∷ after) → Breaks outside table p before here e → ⊥
no-break outside table is_table p before here after (fault.Csv e) kept breaks = breaks
no-break outside table is_table p before here after (fault.Unknown row column) kept breaks =
    let good = good-here outside table before here after kept in
    breaks.2 (names-contained table here good.job good.names)
no-break outside table is_table p before here after (fault.Missing j) kept breaks = breaks
no-break outside table is_table p before here after (fault.Twice row earlier) kept (at, j, names, k, below, place, names') =
    let front : get_or (before ++ here ∷ after) k [] ≡ get_or before k [] = get_or_append_left before (here ∷ after) [] k below in
    let last : get_or (before ++ here ∷ after) (length before) [] ≡ here = get_or-append_seam before here after [] in
    kept.ids_differ k (length before) [] below (omega (arith, length-append before (here ∷ after))) (ap ids_of front ∙ names'.ids_are ∙ sym names.ids_are ∙ ap ids_of (sym last))
no-break outside table is_table p before here after (fault.Outside row column) kept (at, j, names, free, at_column) =
    let none = inside-named outside table is_table here j (good-here outside table before here after kept) names in cc (none, at_column)
no-break outside table is_table p before here after fault.Memory kept breaks = breaks

-- a row breaks one rule first
one-break : (outside : ℕ → List ℕ → Option ℕ) (table : Table) → IsTable table → (p : ℕ) (before : List (List ℕ)) (here : List ℕ) (e f : SideFault) → KeepRules outside table before → Breaks outside table p before here e → Breaks outside table p before here f → e ≡ f
one-break outside table is_table p before here (fault.Csv c) f kept a b = absurd a
one-break outside table is_table p before here (fault.Missing j) f kept a b = absurd a
one-break outside table is_table p before here fault.Memory f kept a b = absurd a
one-break outside table is_table p before here (fault.Unknown r c) (fault.Csv d) kept a b = absurd b
one-break outside table is_table p before here (fault.Unknown r c) (fault.Missing j) kept a b = absurd b
one-break outside table is_table p before here (fault.Unknown r c) fault.Memory kept a b = absurd b
one-break outside table is_table p before here (fault.Unknown r c) (fault.Unknown s d) kept a b = ap₂ fault.Unknown (a.0 ∙ sym b.0) (a.1 ∙ sym b.1)
one-break outside table is_table p before here (fault.Unknown r c) (fault.Twice s l) kept a b = absurd (a.2 (names-contained table here b.1 b.2))
one-break outside table is_table p before here (fault.Unknown r c) (fault.Outside s d) kept a b = absurd (a.2 (names-contained table here b.1 b.2))
one-break outside table is_table p before here (fault.Twice r k) (fault.Csv d) kept a b = absurd b
one-break outside table is_table p before here (fault.Twice r k) (fault.Missing j) kept a b = absurd b
one-break outside table is_table p before here (fault.Twice r k) fault.Memory kept a b = absurd b
one-break outside table is_table p before here (fault.Twice r k) (fault.Unknown s d) kept a b = absurd (b.2 (names-contained table here a.1 a.2))
one-break outside table is_table p before here (fault.Twice r k) (fault.Twice s l) kept (at, i, names, m, below, place, names') (at', j, also, n, below', place', also') =
    let same : ids_of (get_or before m []) ≡ ids_of (get_or before n []) = names'.ids_are ∙ sym names.ids_are ∙ also.ids_are ∙ sym also'.ids_are in
    ap₂ fault.Twice (at ∙ sym at') (place ∙ ap (λ x. x + 1) (index-same before kept.ids_differ m n below below' same) ∙ sym place')
one-break outside table is_table p before here (fault.Twice r k) (fault.Outside s d) kept (at, i, names, m, below, place, names') (at', j, also, free, at_column) =
    absurd (free (contains-row before m (ids_of here) below (names'.ids_are ∙ sym names.ids_are)))
one-break outside table is_table p before here (fault.Outside r c) (fault.Csv d) kept a b = absurd b
one-break outside table is_table p before here (fault.Outside r c) (fault.Missing j) kept a b = absurd b
one-break outside table is_table p before here (fault.Outside r c) fault.Memory kept a b = absurd b
one-break outside table is_table p before here (fault.Outside r c) (fault.Unknown s d) kept a b = absurd (b.2 (names-contained table here a.1 a.2))
one-break outside table is_table p before here (fault.Outside r c) (fault.Twice s l) kept (at, j, also, free, at_column) (at', i, names, m, below, place, names') =
    absurd (free (contains-row before m (ids_of here) below (names'.ids_are ∙ sym names.ids_are)))
one-break outside table is_table p before here (fault.Outside r c) (fault.Outside s d) kept (at, i, names, free, at_column) (at', j, also, free', at_column') =
    let same : i ≡ j = names-same table is_table here here i j names also refl in
    let moved : outside j here ≡ Some c = subst (λ x. outside x here ≡ Some c) same at_column in
    let both : Some c ≡ Some d = sym moved ∙ at_column' in
    ap₂ fault.Outside (at ∙ sym at') (cc both)

-- two rows that are reached split the same rows
rows-split : RowsAgree → (width : ℕ) (outside : ℕ → List ℕ → Option ℕ) (table : Table) (bytes : List ℕ) (p q : ℕ) (r : ReachedRow width outside table bytes p) (s : ReachedRow width outside table bytes q) → r.before ++ r.here ∷ r.after ≡ s.before ++ s.here ∷ s.after
rows-split agree width outside table bytes p q r s = agree bytes width (r.before ++ r.here ∷ r.after) (s.before ++ s.here ∷ s.after) r.rows_are s.rows_are

module _ (agree : RowsAgree) (keep : RowsKeepRules) (one : OneFirstFault) (width : ℕ) (outside : ℕ → List ℕ → Option ℕ) (table : Table) (is_table : IsTable table) (bytes : List ℕ) where
  -- the rows before one that was reached break no rule
  row-earlier : (e f : SideFault) (a : BadRow width outside table bytes e) (b : BadRow width outside table bytes f) → length a.reached.before < length b.reached.before → ⊥
  row-earlier e f a b less =
      let r = a.reached in
      let s = b.reached in
      let (tail, is) = front-within r.before r.here r.after s.before s.here s.after (rows-split agree width outside table bytes a.row b.row r s) less in
      no-break outside table is_table a.row r.before r.here tail e (subst (KeepRules outside table) is s.kept) a.breaks

  one-row : (e f : SideFault) (a : BadRow width outside table bytes e) (b : BadRow width outside table bytes f) → length a.reached.before ≡ length b.reached.before → e ≡ f
  one-row e f a b long =
      let r = a.reached in
      let s = b.reached in
      let (fronts, items) = fronts-same r.before r.here r.after s.before s.here s.after (rows-split agree width outside table bytes a.row b.row r s) long in
      let place : b.row ≡ a.row = s.place ∙ ap (λ n. n + 1) (sym long) ∙ sym r.place in
      let there : Breaks outside table a.row s.before s.here f = subst (λ p. Breaks outside table p s.before s.here f) place b.breaks in
      let there' : Breaks outside table a.row r.before s.here f = subst (λ l. Breaks outside table a.row l s.here f) (sym fronts) there in
      let here : Breaks outside table a.row r.before r.here f = subst (λ x. Breaks outside table a.row r.before x f) (sym items) there' in
      one-break outside table is_table a.row r.before r.here e f r.kept a.breaks here

  one-bad-row : (e f : SideFault) → BadRow width outside table bytes e → BadRow width outside table bytes f → e ≡ f
  one-bad-row e f a b = elim (cases_lt (length a.reached.before) (length b.reached.before)) [
    | inl less ↦ absurd (row-earlier e f a b less)
    | inr more ↦ elim (cases_lt (length b.reached.before) (length a.reached.before)) [
      | inl less ↦ absurd (row-earlier f e b a less)
      | inr other ↦ one-row e f a b (omega (arith, more, other))
    ]
  ]

  -- where a job has no row, no row breaks a rule
  missing-alone : (j : ℕ) (e : SideFault) → MissingJob width outside table bytes j → BadRow width outside table bytes e → ⊥
  missing-alone j e m b =
      let r = b.reached in
      let same = agree bytes width m.rows (r.before ++ r.here ∷ r.after) m.rows_are r.rows_are in
      no-break outside table is_table b.row r.before r.here r.after e (subst (KeepRules outside table) same m.kept) b.breaks

  -- the first job without a row is one
  missing-earlier : (i j : ℕ) → MissingJob width outside table bytes i → MissingJob width outside table bytes j → i < j → ⊥
  missing-earlier i j m n less =
      let same = agree bytes width n.rows m.rows n.rows_are m.rows_are in
      m.missing (subst (λ l. Contains (map ids_of l) (id_of (job_at table i))) same (n.first i less))

  one-missing : (i j : ℕ) → MissingJob width outside table bytes i → MissingJob width outside table bytes j → i ≡ j
  one-missing i j m n = elim (cases_lt i j) [
    | inl less ↦ absurd (missing-earlier i j m n less)
    | inr more ↦ elim (cases_lt j i) [
      | inl less ↦ absurd (missing-earlier j i n m less)
      | inr other ↦ omega (arith, more, other)
    ]
  ]

  -- a first broken rule is one of CSV; or all rows are numbers, and a job has no row, or a row is bad
  record OfCsv (e : SideFault) : Type 0 where
    pub csv_fault : CsvFault
    pub is : e ≡ fault.Csv csv_fault
    pub other : csv_fault ≢ csv.Memory
    pub first : FirstFault bytes width csv_fault

  record OfJob (e : SideFault) : Type 0 where
    pub job : ℕ
    pub is : e ≡ fault.Missing job
    pub missing : MissingJob width outside table bytes job

  kind : (e : SideFault) → e ≢ fault.Memory → FirstRowFault width outside table bytes e → OfCsv e ⊎ OfJob e ⊎ BadRow width outside table bytes e
  kind (fault.Csv c) other a = inl (record { csv_fault = c; is = refl; other = a.0; first = a.1 })
  kind (fault.Unknown row column) other a = inr (inr (record { row = row; reached = a.0; breaks = (refl, a.1, a.2) }))
  kind (fault.Missing j) other a = inr (inl (record { job = j; is = refl; missing = a }))
  kind (fault.Twice row earlier) other (r, j, names, k, below, place, names') = inr (inr (record { row = row; reached = r; breaks = (refl, j, names, k, below, place, names') }))
  kind (fault.Outside row column) other (r, j, names, free, at_column) = inr (inr (record { row = row; reached = r; breaks = (refl, j, names, free, at_column) }))
  kind fault.Memory other a = absurd (other refl)

  -- where the rows are numbers, no rule of CSV is broken
  csv-alone : (e f : SideFault) → OfCsv e → OfJob f ⊎ BadRow width outside table bytes f → ⊥
  csv-alone e f a (inl m) = keep bytes width m.missing.rows m.missing.rows_are a.csv_fault a.other a.first
  csv-alone e f a (inr b) = keep bytes width (b.reached.before ++ b.reached.here ∷ b.reached.after) b.reached.rows_are a.csv_fault a.other a.first

  one-of_rows : (e f : SideFault) → OfJob e ⊎ BadRow width outside table bytes e → OfJob f ⊎ BadRow width outside table bytes f → e ≡ f
  one-of_rows e f (inl m) (inl n) = m.is ∙ ap fault.Missing (one-missing m.job n.job m.missing n.missing) ∙ sym n.is
  one-of_rows e f (inl m) (inr b) = absurd (missing-alone m.job f m.missing b)
  one-of_rows e f (inr a) (inl n) = absurd (missing-alone n.job e n.missing a)
  one-of_rows e f (inr a) (inr b) = one-bad-row e f a b

  one-kind : (e f : SideFault) → OfCsv e ⊎ OfJob e ⊎ BadRow width outside table bytes e → OfCsv f ⊎ OfJob f ⊎ BadRow width outside table bytes f → e ≡ f
  one-kind e f (inl a) (inl b) = a.is ∙ ap fault.Csv (one bytes width a.csv_fault b.csv_fault a.other b.other a.first b.first) ∙ sym b.is
  one-kind e f (inl a) (inr b) = absurd (csv-alone e f a b)
  one-kind e f (inr a) (inl b) = absurd (csv-alone f e b a)
  one-kind e f (inr a) (inr b) = one-of_rows e f a b

  one-fault : (e f : SideFault) → e ≢ fault.Memory → f ≢ fault.Memory → FirstRowFault width outside table bytes e → FirstRowFault width outside table bytes f → e ≡ f
  one-fault e f e_other f_other a b = one-kind e f (kind e e_other a) (kind f f_other b)

pub one-row-fault : RowsAgree → RowsKeepRules → OneFirstFault → (width : ℕ) (outside : ℕ → List ℕ → Option ℕ) (table : Table) → IsTable table → (bytes : List ℕ) (e f : SideFault) → e ≢ fault.Memory → f ≢ fault.Memory
    → FirstRowFault width outside table bytes e → FirstRowFault width outside table bytes f → e ≡ f
one-row-fault agree keep one width outside table is_table bytes e f = one-fault agree keep one width outside table is_table bytes e f

-- the first rule of CSV that a text breaks is the first that it breaks
pub first-csv : (width : ℕ) (outside : ℕ → List ℕ → Option ℕ) (table : Table) (bytes : List ℕ) (e : CsvFault) → FirstFault bytes width e → FirstRowFault width outside table bytes (side_fault_of e)
first-csv width outside table bytes csv.NoHeading first = (λ e. cc, first)
first-csv width outside table bytes (csv.Width row found) first = (λ e. cc, first)
first-csv width outside table bytes (csv.NotNumber row column) first = (λ e. cc, first)
first-csv width outside table bytes (csv.TooBig row column) first = (λ e. cc, first)
first-csv width outside table bytes csv.Memory first = tt

-- the row at an index, where those before it keep the rules
abbrev pub reached : (width : ℕ) (outside : ℕ → List ℕ → Option ℕ) (table : Table) (bytes : List ℕ) (rows : List (List ℕ)) (i : ℕ) → i < length rows → Rows bytes width rows → KeepRules outside table (take i rows) → ReachedRow width outside table bytes (i + 1)
reached width outside table bytes rows i below reads kept = record {
  before = take i rows;
  here = get_or rows i [];
  after = drop (suc i) rows;
  rows_are = subst (λ (l : List (List ℕ)). Rows bytes width l) (sym (take-append-drop i rows) ∙ ap (λ l. take i rows ++ l) (drop-cons rows i [] below)) reads;
  place = ap (λ n. n + 1) (sym (length-take-le i rows (omega arith)));
  kept = kept;
}

-- a text that gives each job its item breaks no rule
pub no-fault : {V : Type 0} → RowsAgree → RowsKeepRules → (width : ℕ) (outside : ℕ → List ℕ → Option ℕ) (value : List ℕ → V) (none : V) (table : Table) → IsTable table → (bytes : List ℕ) (items : List V)
    → GivesEach width outside value none table bytes items → (e : SideFault) → e ≢ fault.Memory → ¬ FirstRowFault width outside table bytes e
no-fault agree keep width outside value none table is_table bytes items text (fault.Csv f) other first = keep bytes width text.rows text.rows_are f first.0 first.1
no-fault agree keep width outside value none table is_table bytes items text (fault.Unknown row column) other first =
    let r = first.0 in
    let same = agree bytes width text.rows (r.before ++ r.here ∷ r.after) text.rows_are r.rows_are in
    no-break outside table is_table row r.before r.here r.after (fault.Unknown row column) (subst (KeepRules outside table) same text.kept) (refl, first.1, first.2)
no-fault agree keep width outside value none table is_table bytes items text (fault.Missing j) other first =
    let there = given-contained value none table text.rows items (length table.jobs) text.given j first.is_job in
    first.missing (subst (λ l. Contains (map ids_of l) (id_of (job_at table j))) (agree bytes width text.rows first.rows text.rows_are first.rows_are) there)
no-fault agree keep width outside value none table is_table bytes items text (fault.Twice row earlier) other (r, j, names, k, below, place, names') =
    let same = agree bytes width text.rows (r.before ++ r.here ∷ r.after) text.rows_are r.rows_are in
    no-break outside table is_table row r.before r.here r.after (fault.Twice row earlier) (subst (KeepRules outside table) same text.kept) (refl, j, names, k, below, place, names')
no-fault agree keep width outside value none table is_table bytes items text (fault.Outside row column) other (r, j, names, free, at_column) =
    let same = agree bytes width text.rows (r.before ++ r.here ∷ r.after) text.rows_are r.rows_are in
    no-break outside table is_table row r.before r.here r.after (fault.Outside row column) (subst (KeepRules outside table) same text.kept) (refl, j, names, free, at_column)
no-fault agree keep width outside value none table is_table bytes items text fault.Memory other first = other refl
