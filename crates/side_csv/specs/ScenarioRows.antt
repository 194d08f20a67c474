-- The text of a scenario, as it is written.
--     scenario_heading                the words of its first line
--     scenario_row table scenario j   the numbers of the row of job number j
--     scenario_rows table scenario    the rows of all jobs, by number
--     scenario_text table scenario    the heading and the rows
use Rattle.std.specs.Prelude.{ℕ, List, [], ◌∷◌, codes, length, map}
use Rattle.csv_numbers.specs.RowsText.{rows_text}
use Rattle.lists.specs.Numbers.{numbers_below}
use Rattle.job_model.specs.Scenario.{cost_of, release_of}
use Rattle.job_model.specs.Table.{Table, job_at}

-- the words of the first line
abbrev pub scenario_heading : List (List ℕ)
scenario_heading = codes "Task ID" ∷ codes "Job ID" ∷ codes "Release" ∷ codes "Cost" ∷ []

-- the IDs of job number j, its release and its cost
abbrev pub scenario_row : Table → List (ℕ × ℕ) → ℕ → List ℕ
scenario_row table scenario j = (job_at table j).task ∷ (job_at table j).job ∷ release_of scenario j ∷ cost_of scenario j ∷ []

-- a row for each job, by number
abbrev pub scenario_rows : Table → List (ℕ × ℕ) → List (List ℕ)
scenario_rows table scenario = map (scenario_row table scenario) (numbers_below (length table.jobs))

-- the heading, and a row for each job by its number
abbrev pub scenario_text : Table → List (ℕ × ℕ) → List ℕ
scenario_text table scenario = rows_text scenario_heading (scenario_rows table scenario)
