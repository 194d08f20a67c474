-- Precedence files: a row for each edge, which names its predecessor and then its successor.
--     predecessor_in row, successor_in row     the IDs in a row
--     HasIds table j ids                       job number j has these IDs
--     NamesEdge table row edge                 the row has the IDs of the edge's jobs
--     PrecedenceText table bytes edges         the rows of the file name these edges, in their order
use Rattle.std.specs.Prelude.{◌≡◌, ◌<◌, ℕ, List, length, slice_index}
use Rattle.std.specs.List.{AllZip}
use Rattle.csv_numbers.specs.Rows.{Rows}
use Rattle.job_model.specs.Table.{Table, id_of, job_at}

-- the task ID and the job ID of the predecessor
abbrev pub predecessor_in : List ℕ → ℕ × ℕ
predecessor_in row = (slice_index row 0, slice_index row 1)

-- the task ID and the job ID of the successor
abbrev pub successor_in : List ℕ → ℕ × ℕ
successor_in row = (slice_index row 2, slice_index row 3)

-- job number j has these IDs
pub record HasIds (table : Table) (j : ℕ) (ids : ℕ × ℕ) : Type 0 where
  pub is_job : j < length table.jobs
  pub ids_are : id_of (job_at table j) ≡ ids

-- the row has the IDs of the edge's jobs
pub record NamesEdge (table : Table) (row : List ℕ) (edge : ℕ × ℕ) : Type 0 where
  pub predecessor : HasIds table edge.0 (predecessor_in row)
  pub successor : HasIds table edge.1 (successor_in row)

-- Each row of the file names one edge, and these are the edges in the order of the rows.
pub record PrecedenceText (table : Table) (bytes : List ℕ) (edges : List (ℕ × ℕ)) : Type 0 where
  pub rows : List (List ℕ)
  pub rows_are : Rows bytes 4 rows
  pub edges_are : AllZip (NamesEdge table) rows edges
