-- Scenario files: a row for each job, in any order, with its release and its cost.
--     release_in row, cost_in row             the columns of a row
--     values_in row                           both
--     intervals a row                         the columns with an interval
--     first_outside columns                   the leftmost column that is outside its interval
--     outside_in_scenario table j row         that of the row of job number j
--     ScenarioText table bytes scenario       the file gives each job its release and cost of the scenario
use Rattle.std.specs.Prelude.{◌∷◌, ◌||◌, [], ℕ, List, Option, find, nat_lt, slice_index}
use Rattle.std.specs.Option.{option_map}
use Rattle.job_model.specs.declared.job_row.Job.{Job}
use Rattle.job_model.specs.Table.{Table, job_at}
use Rattle.side_csv.specs.RowPerJob.{GivesEach}

abbrev pub release_in : List ℕ → ℕ
release_in row = slice_index row 2

abbrev pub cost_in : List ℕ → ℕ
cost_in row = slice_index row 3

-- the release and the cost
abbrev pub values_in : List ℕ → ℕ × ℕ
values_in row = (release_in row, cost_in row)

-- the columns with an interval: the column's number, what stands there, and the ends of the interval
abbrev pub intervals : Job → List ℕ → List (ℕ × ℕ × ℕ × ℕ)
intervals a row = (3, release_in row, a.rmin, a.rmax) ∷ (4, cost_in row, a.cmin, a.cmax) ∷ []

-- the leftmost column that is outside its interval
abbrev pub first_outside : List (ℕ × ℕ × ℕ × ℕ) → Option ℕ
first_outside columns = option_map (λ c. c.0) (find (λ c. nat_lt c.1 c.2 || nat_lt c.3 c.1) columns)

-- the leftmost column of a row that is outside its job's interval
abbrev pub outside_in_scenario : Table → ℕ → List ℕ → Option ℕ
outside_in_scenario table j row = first_outside (intervals (job_at table j) row)

-- The rows of the file keep the rules, and one of them gives each job its release and cost of the scenario.
abbrev pub ScenarioText : Table → List ℕ → List (ℕ × ℕ) → Type 0
ScenarioText table bytes scenario = GivesEach 4 (outside_in_scenario table) values_in (0, 0) table bytes scenario
