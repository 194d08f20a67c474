-- The first rule that a file with a row for each job breaks. Rows are counted from 1, after the heading, and columns from 1.
--     ReachedRow width outside table bytes row           the row of this number, where those before it keep the rules
--     MissingJob width outside table bytes j             the first job without a row
--     side_fault_of fault                                a fault of CSV as one of these
--     FirstRowFault width outside table bytes fault      the first broken rule; want of memory may come at any file
use Rattle.std.specs.Prelude.{◌≡◌, ◌≢◌, ◌+◌, ◌<◌, ◌++◌, ◌∷◌, [], ℕ, List, Option, Some, Contains, length, map, slice_index_or, ⊤}
use Rattle.csv_numbers.specs.Rows.{FirstFault, Rows}
use Rattle.csv_numbers.specs.declared.fault.CsvFault.{CsvFault}
use Rattle.csv_numbers.specs.declared.fault.CsvFault.TheVariants as csv
use Rattle.job_model.specs.Table.{Table, id_of, job_at}
use Rattle.side_csv.specs.RowPerJob.{KeepRules, NamesJob, ids_of}
use Rattle.side_csv.specs.declared.fault.SideFault.{SideFault}
use Rattle.side_csv.specs.declared.fault.SideFault.TheVariants as fault

-- The row of this number, where all rows are numbers and those before it keep the rules.
pub record ReachedRow (width : ℕ) (outside : ℕ → List ℕ → Option ℕ) (table : Table) (bytes : List ℕ) (row : ℕ) : Type 0 where
  pub before : List (List ℕ)
  pub here : List ℕ
  pub after : List (List ℕ)
  pub rows_are : Rows bytes width (before ++ here ∷ after)
  pub place : row ≡ length before + 1
  pub kept : KeepRules outside table before

-- All rows keep the rules, none names job number j, and each job before it has one.
pub record MissingJob (width : ℕ) (outside : ℕ → List ℕ → Option ℕ) (table : Table) (bytes : List ℕ) (j : ℕ) : Type 0 where
  pub rows : List (List ℕ)
  pub rows_are : Rows bytes width rows
  pub kept : KeepRules outside table rows
  pub is_job : j < length table.jobs
  pub missing : ¬ Contains (map ids_of rows) (id_of (job_at table j))
  pub first : (i : ℕ) → i < j → Contains (map ids_of rows) (id_of (job_at table i))

-- a fault of CSV, of which want of memory is no rule that a file breaks
abbrev pub side_fault_of : CsvFault → SideFault
side_fault_of csv.Memory = fault.Memory
side_fault_of e = fault.Csv e

-- The first rule that a file breaks: the CSV rules of all rows; then by row that it names a job, that no earlier row
-- names it, and that no column is outside; then that each job has a row.
abbrev pub FirstRowFault : ℕ → (ℕ → List ℕ → Option ℕ) → Table → List ℕ → SideFault → Type 0
FirstRowFault width outside table bytes (fault.Csv e) = (e ≢ csv.Memory) × FirstFault bytes width e
FirstRowFault width outside table bytes (fault.Unknown row column) =
    (r : ReachedRow width outside table bytes row) × (column ≡ 1) × (¬ Contains (map id_of table.jobs) (ids_of r.here))
FirstRowFault width outside table bytes (fault.Missing j) = MissingJob width outside table bytes j
FirstRowFault width outside table bytes (fault.Twice row earlier) = (r : ReachedRow width outside table bytes row) × (j : ℕ) × NamesJob table r.here j
    × (k : ℕ) × (k < length r.before) × (earlier ≡ k + 1) × NamesJob table (slice_index_or r.before k []) j
FirstRowFault width outside table bytes (fault.Outside row column) = (r : ReachedRow width outside table bytes row) × (j : ℕ) × NamesJob table r.here j
    × (¬ Contains (map ids_of r.before) (ids_of r.here)) × (outside j r.here ≡ Some column)
FirstRowFault width outside table bytes fault.Memory = ⊤
