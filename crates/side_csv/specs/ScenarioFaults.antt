-- The first rule that a scenario file breaks. Rows are counted from 1, after the heading, and columns from 1.
--     FirstScenarioFault table bytes fault      that rule; want of memory may come at any file
use Rattle.std.specs.Prelude.{ℕ, List}
use Rattle.job_model.specs.Table.{Table}
use Rattle.side_csv.specs.RowPerJobFaults.{FirstRowFault}
use Rattle.side_csv.specs.ScenarioText.{outside_in_scenario}
use Rattle.side_csv.specs.declared.fault.SideFault.{SideFault}

-- The first rule that a file breaks: the CSV rules of all rows; then by row that it names a job, that no earlier row
-- names it, and that its release and then its cost is in the job's interval; then that each job has a row.
abbrev pub FirstScenarioFault : Table → List ℕ → SideFault → Type 0
FirstScenarioFault table bytes fault = FirstRowFault 4 (outside_in_scenario table) table bytes fault
