-- The first rule that a file of a recorded run breaks. Rows are counted from 1, after the heading, and columns from 1.
--     FirstRunFault table scenario bytes fault      that rule; want of memory may come at any file
use Rattle.std.specs.Prelude.{ℕ, List}
use Rattle.job_model.specs.Table.{Table}
use Rattle.side_csv.specs.RowPerJobFaults.{FirstRowFault}
use Rattle.side_csv.specs.RunText.{outside_in_run}
use Rattle.side_csv.specs.declared.fault.SideFault.{SideFault}

-- The first rule that a file breaks: the CSV rules of all rows; then by row that it names a job, that no earlier row
-- names it, and that its start, its finish and its core are right; then that each job has a row.
abbrev pub FirstRunFault : Table → List (ℕ × ℕ) → List ℕ → SideFault → Type 0
FirstRunFault table scenario bytes fault = FirstRowFault 5 (outside_in_run scenario) table bytes fault
