-- How the files of the subject are judged.
--     JobsRefused bytes fault               the first rule that a job file breaks
--     JobsJudged bytes end                  the table of a job file, or that rule
--     PrecedenceRefused table bytes fault   the first rule that a precedence file breaks
--     PrecedenceJudged table bytes end      the table with the edges of a precedence file, or that rule
--     told_fault kind table e               what is told of a fault of a file with a row for each job
--     ScenarioRefused table bytes fault     the first rule that a scenario file breaks
--     ScenarioJudged table bytes end        the scenario of a scenario file, or that rule
--     jobs_plan, precedence_plan, scenario_plan   such a file is read, and judged
--     table_plan                            the job file, and then the precedence file where one is named
use Rattle.std.specs.Prelude.{ℕ, ◌≡◌, ◌≢◌, ◌<◌, ◌⊎◌, List, length, Option, None, Some, Result, Ok, Err, ⊤}
use Rattle.csv_numbers.specs.Rows.{FirstFault}
use Rattle.csv_numbers.specs.declared.fault.CsvFault.{CsvFault}
use Rattle.csv_numbers.specs.declared.fault.CsvFault.TheVariants as csv
use Rattle.job_model.specs.declared.job_row.Job.{Job}
use Rattle.job_model.specs.declared.fault.TableFault.{TableFault}
use Rattle.job_model.specs.declared.fault.TableFault.TheVariants as table
use Rattle.job_model.specs.declared.fault.EdgeFault.{EdgeFault}
use Rattle.job_model.specs.declared.fault.EdgeFault.TheVariants as edge
use Rattle.job_model.specs.Table.{Table, IsTable, job_at, table_of}
use Rattle.job_model.specs.EdgeFaults.{FirstEdgeFault, KeepEdgeRules, with_edges}
use Rattle.job_model.specs.TableFaults.{FirstTableFault}
use Rattle.job_model.specs.Scenario.{Fits}
use Rattle.job_csv.specs.Jobs.{JobRows}
use Rattle.side_csv.specs.declared.fault.SideFault.{SideFault}
use Rattle.side_csv.specs.declared.fault.SideFault.TheVariants as side
use Rattle.side_csv.specs.PrecedenceText.{PrecedenceText}
use Rattle.side_csv.specs.PrecedenceFaults.{FirstPrecedenceFault}
use Rattle.side_csv.specs.ScenarioText.{ScenarioText}
use Rattle.side_csv.specs.ScenarioFaults.{FirstScenarioFault}
use Rattle.sag_texts.specs.declared.fault.FileKind.{FileKind}
use Rattle.sag_texts.specs.declared.fault.FileKind.TheVariants as kinds
use Rattle.sag_texts.specs.declared.fault.Fault.{Fault}
use Rattle.sag_texts.specs.declared.fault.Fault.TheVariants as faults
use Rattle.sag_engine.specs.declared.fetch.TheConstants.{MOST_FILE_BYTES}
use Rattle.sag_engine.specs.Plan.{Plan, ◌>>=◌, file_plan, judged}
use Rattle.sag_engine.specs.Plan.Plan.{Ends}

-- The first rule that a job file breaks: a rule of CSV, by row; or else, of rows that are all numbers, a rule of tables.
-- Want of memory is no refusal.
abbrev pub JobsRefused : List ℕ → Fault → Type 0
JobsRefused bytes fault = ((e : CsvFault) × (fault ≡ faults.Csv kinds.Jobs e) × (e ≢ csv.Memory) × FirstFault bytes 8 e)
    ⊎ ((e : TableFault) × (fault ≡ faults.Table e) × (e ≢ table.Memory)
    × ((rows : List Job) × JobRows bytes rows × FirstTableFault rows e))

-- the table of the rows of a job file, or the first rule that the file breaks
abbrev pub JobsJudged : List ℕ → Result Table Fault → Type 0
JobsJudged bytes (Ok table) = (rows : List Job) × JobRows bytes rows × (table ≡ table_of rows) × IsTable table
JobsJudged bytes (Err fault) = JobsRefused bytes fault

-- The first rule that a precedence file breaks: a rule of CSV, or else a job that is none of the table's; or else, of rows
-- that all name edges, a rule of edges. Want of memory is no refusal.
abbrev pub PrecedenceRefused : Table → List ℕ → Fault → Type 0
PrecedenceRefused table bytes fault =
    ((e : SideFault) × (fault ≡ faults.Side kinds.Precedence e) × (e ≢ side.Memory) × FirstPrecedenceFault table bytes e)
    ⊎ ((e : EdgeFault) × (fault ≡ faults.Edge e) × (e ≢ edge.Memory)
    × ((rows : List (ℕ × ℕ)) × PrecedenceText table bytes rows × FirstEdgeFault rows e))

-- the table with the edges of a precedence file, or the first rule that the file breaks
abbrev pub PrecedenceJudged : Table → List ℕ → Result Table Fault → Type 0
PrecedenceJudged table bytes (Ok whole) =
    (rows : List (ℕ × ℕ)) × PrecedenceText table bytes rows × KeepEdgeRules rows × (whole ≡ with_edges table rows) × IsTable whole
PrecedenceJudged table bytes (Err fault) = PrecedenceRefused table bytes fault

-- what is told of a fault of a file with a row for each job: a job without a row is named by its IDs
abbrev pub told_fault : FileKind → Table → SideFault → Fault
told_fault kind table (side.Missing j) = faults.NoRow kind (job_at table j).task (job_at table j).job
told_fault kind table other = faults.Side kind other

-- a job without a row is one of the table
abbrev pub IsOfTable : Table → SideFault → Type 0
IsOfTable table (side.Missing j) = j < length table.jobs
IsOfTable table other = ⊤

-- The first rule that a scenario file breaks. Want of memory is no refusal.
abbrev pub ScenarioRefused : Table → List ℕ → Fault → Type 0
ScenarioRefused table bytes fault = (e : SideFault) × (fault ≡ told_fault kinds.Scenario table e) × (e ≢ side.Memory) × FirstScenarioFault table bytes e

-- the scenario of a scenario file, or the first rule that the file breaks
abbrev pub ScenarioJudged : Table → List ℕ → Result (List (ℕ × ℕ)) Fault → Type 0
ScenarioJudged table bytes (Ok scenario) = ScenarioText table bytes scenario × Fits table scenario
ScenarioJudged table bytes (Err fault) = ScenarioRefused table bytes fault

-- the job file
unfoldable pub jobs_plan : List ℕ → Plan (Result Table Fault)
jobs_plan name = do
  bytes ← file_plan kinds.Jobs name MOST_FILE_BYTES
  judged (JobsJudged bytes)

-- the precedence file of a table, where one is named; without one the table stays as it is
unfoldable pub precedence_plan : Table → Option (List ℕ) → Plan (Result Table Fault)
precedence_plan table None = Ends (Ok table)
precedence_plan table (Some name) = do
  bytes ← file_plan kinds.Precedence name MOST_FILE_BYTES
  judged (PrecedenceJudged table bytes)

-- the job file, and then the precedence file where one is named
unfoldable pub table_plan : List ℕ → Option (List ℕ) → Plan (Result Table Fault)
table_plan jobs prec = do
  table ← jobs_plan jobs
  precedence_plan table prec

-- the scenario file of a table
unfoldable pub scenario_plan : Table → List ℕ → Plan (Result (List (ℕ × ℕ)) Fault)
scenario_plan table name = do
  bytes ← file_plan kinds.Scenario name MOST_FILE_BYTES
  judged (ScenarioJudged table bytes)
