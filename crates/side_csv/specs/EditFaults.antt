-- The first rule that a file of edits breaks. Rows are counted from 1, after the heading, and columns from 1.
--     CostsInOrder row                        the least cost is something, and at most the greatest
--     FirstOutsideCost row column             the leftmost cost that no job may have
--     ReachedEditRow table bytes row          the row of this number, where each row before it gives an edit
--     FirstEditFault table bytes fault        the first broken rule; want of memory may come at any file
use Rattle.std.specs.Prelude.{◌≡◌, ◌≢◌, ◌⊎◌, ◌≤◌, ◌<◌, ◌+◌, ◌++◌, ◌∷◌, ℕ, List, length, ⊤}
use Rattle.std.specs.List.{AllZip}
use Rattle.csv_numbers.specs.Rows.{FirstFault, Rows}
use Rattle.csv_numbers.specs.declared.fault.CsvFault.TheVariants as csv
use Rattle.job_model.specs.Table.{Table}
use Rattle.job_model.specs.declared.limits.TheConstants.{MOST_COST}
use Rattle.side_csv.specs.EditsText.{GivesEdit, cmax_in, cmin_in}
use Rattle.side_csv.specs.PrecedenceFaults.{IsKnown}
use Rattle.side_csv.specs.RowPerJob.{ids_of}
use Rattle.side_csv.specs.declared.edits.JobEdit.{JobEdit}
use Rattle.side_csv.specs.declared.fault.SideFault.{SideFault}
use Rattle.side_csv.specs.declared.fault.SideFault.TheVariants as fault

-- the least cost is something, and at most the greatest
abbrev pub CostsInOrder : List ℕ → Type 0
CostsInOrder row = (1 ≤ cmin_in row) × (cmin_in row ≤ cmax_in row)

-- the costs are out of order, which the least shows; or they are in order, and the greatest is above the limit
abbrev pub FirstOutsideCost : List ℕ → ℕ → Type 0
FirstOutsideCost row column = ((column ≡ 3) × (¬ CostsInOrder row)) ⊎ ((column ≡ 4) × CostsInOrder row × (MOST_COST < cmax_in row))

-- The row of this number, where all rows are numbers and each row before it gives an edit.
pub record ReachedEditRow (table : Table) (bytes : List ℕ) (row : ℕ) : Type 0 where
  pub before : List (List ℕ)
  pub here : List ℕ
  pub after : List (List ℕ)
  pub rows_are : Rows bytes 5 (before ++ here ∷ after)
  pub place : row ≡ length before + 1
  pub edits : List JobEdit
  pub given : AllZip (GivesEdit table) before edits

-- The first rule that a file breaks: the CSV rules of all rows; then by row that it names a job, and that a job may have its costs.
abbrev pub FirstEditFault : Table → List ℕ → SideFault → Type 0
FirstEditFault table bytes (fault.Csv e) = (e ≢ csv.Memory) × FirstFault bytes 5 e
FirstEditFault table bytes (fault.Unknown row column) = (r : ReachedEditRow table bytes row) × (column ≡ 1) × (¬ IsKnown table (ids_of r.here))
FirstEditFault table bytes (fault.Missing j) = ⊥
FirstEditFault table bytes (fault.Twice row earlier) = ⊥
FirstEditFault table bytes (fault.Outside row column) = (r : ReachedEditRow table bytes row) × IsKnown table (ids_of r.here) × FirstOutsideCost r.here column
FirstEditFault table bytes fault.Memory = ⊤
