-- The first rule that a precedence file breaks. Rows are counted from 1, after the heading, and columns from 1.
--     IsKnown table ids                            a job has these IDs
--     FirstUnknown table row column                the leftmost IDs of the row that no job has begin in this column
--     ReachedEdgeRow table bytes row               the row of this number, where each row before it names an edge
--     FirstPrecedenceFault table bytes fault       the first broken rule; want of memory may come at any file
use Rattle.std.specs.Prelude.{◌≡◌, ◌≢◌, ◌⊎◌, ◌+◌, ◌++◌, ◌∷◌, ℕ, List, Contains, length, map, ⊤}
use Rattle.std.specs.List.{AllZip}
use Rattle.csv_numbers.specs.Rows.{FirstFault, Rows}
use Rattle.csv_numbers.specs.declared.fault.CsvFault.TheVariants as csv
use Rattle.job_model.specs.Table.{Table, id_of}
use Rattle.side_csv.specs.PrecedenceText.{NamesEdge, predecessor_in, successor_in}
use Rattle.side_csv.specs.declared.fault.SideFault.{SideFault}
use Rattle.side_csv.specs.declared.fault.SideFault.TheVariants as fault

-- a job has these IDs
abbrev pub IsKnown : Table → ℕ × ℕ → Type 0
IsKnown table ids = Contains (map id_of table.jobs) ids

-- no job is the predecessor, or one is and no job is the successor
abbrev pub FirstUnknown : Table → List ℕ → ℕ → Type 0
FirstUnknown table row column =
    ((column ≡ 1) × (¬ IsKnown table (predecessor_in row))) ⊎ ((column ≡ 3) × IsKnown table (predecessor_in row) × (¬ IsKnown table (successor_in row)))

-- The row of this number, where all rows are numbers and each row before it names an edge.
pub record ReachedEdgeRow (table : Table) (bytes : List ℕ) (row : ℕ) : Type 0 where
  pub before : List (List ℕ)
  pub here : List ℕ
  pub after : List (List ℕ)
  pub rows_are : Rows bytes 4 (before ++ here ∷ after)
  pub place : row ≡ length before + 1
  pub edges : List (ℕ × ℕ)
  pub named : AllZip (NamesEdge table) before edges

-- The first rule that a file breaks: the CSV rules of all rows; then by row that its predecessor and then its successor is a job.
abbrev pub FirstPrecedenceFault : Table → List ℕ → SideFault → Type 0
FirstPrecedenceFault table bytes (fault.Csv e) = (e ≢ csv.Memory) × FirstFault bytes 4 e
FirstPrecedenceFault table bytes (fault.Unknown row column) = (r : ReachedEdgeRow table bytes row) × FirstUnknown table r.here column
FirstPrecedenceFault table bytes (fault.Missing j) = ⊥
FirstPrecedenceFault table bytes (fault.Twice row earlier) = ⊥
FirstPrecedenceFault table bytes (fault.Outside row column) = ⊥
FirstPrecedenceFault table bytes fault.Memory = ⊤
