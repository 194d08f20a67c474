-- The first rule that a task file breaks. Rows are counted from 1, after the heading, and columns from 1.
--     task_limits a                          the columns of a row with a limit
--     task_at tasks k                        the task at a place
--     BreaksTaskRule before a row fault      the fault is the first rule that the task of this row breaks, after those before it
--     FirstBrokenTask tasks fault            the first task that breaks a rule, and the first that it breaks
--     task_fault_of fault                    a fault of CSV as one of these
--     FirstTaskFault bytes fault             the first broken rule; want of memory may come at any file
use Rattle.std.specs.Prelude.{◌≡◌, ◌≢◌, ℕ, ◌+◌, ◌<◌, ◌≤◌, List, [], ◌∷◌, ◌++◌, None, Some, length, slice_index_or, ⊤}
use Rattle.csv_numbers.specs.Rows.{FirstFault}
use Rattle.csv_numbers.specs.declared.fault.CsvFault.{CsvFault}
use Rattle.csv_numbers.specs.declared.fault.CsvFault.TheVariants as csv
use Rattle.job_model.specs.declared.limits.TheConstants.{MOST_COST}
use Rattle.job_model.specs.TableFaults.{first_above}
use Rattle.task_unroll.specs.declared.limits.TheConstants.{MOST_TASK_TIME}
use Rattle.task_unroll.specs.declared.task.Task.{Task}
use Rattle.task_unroll.specs.declared.fault.TaskFault.{TaskFault}
use Rattle.task_unroll.specs.declared.fault.TaskFault.TheVariants as fault
use Rattle.task_unroll.specs.TaskRows.{TaskRows}
use Rattle.task_unroll.specs.Tasks.{AreTasks, IsTask}

-- the columns with a limit: the column's number, what stands there, and the limit
abbrev pub task_limits : Task → List (ℕ × ℕ × ℕ)
task_limits a =
    (2, a.period, MOST_TASK_TIME) ∷ (3, a.offset, MOST_TASK_TIME) ∷ (4, a.jitter, MOST_TASK_TIME) ∷ (5, a.cmin, MOST_COST) ∷ (6, a.cmax, MOST_COST)
    ∷ (7, a.deadline, MOST_TASK_TIME) ∷ []

-- read only past the end of a list of tasks
abbrev pub no_task : Task
no_task = record { task = 0; period = 0; offset = 0; jitter = 0; cmin = 0; cmax = 0; deadline = 0 }

-- the task at a place, of which the first is 0
abbrev pub task_at : List Task → ℕ → Task
task_at tasks k = slice_index_or tasks k no_task

-- The fault is the first rule that the task of this row breaks: a limit, from the left; the period; the order of the costs; the
-- least cost; or its ID, which is that of an earlier row.
abbrev pub BreaksTaskRule : List Task → Task → ℕ → TaskFault → Type 0
BreaksTaskRule before a row (fault.Csv e) = ⊥
BreaksTaskRule before a row (fault.OverLimit at column) = (at ≡ row) × (first_above (task_limits a) ≡ Some column)
BreaksTaskRule before a row (fault.ZeroPeriod at) = (at ≡ row) × (first_above (task_limits a) ≡ None) × (a.period ≡ 0)
BreaksTaskRule before a row (fault.SpanReversed at) = (at ≡ row) × (first_above (task_limits a) ≡ None) × (1 ≤ a.period) × (a.cmax < a.cmin)
BreaksTaskRule before a row (fault.ZeroCost at) = (at ≡ row) × (first_above (task_limits a) ≡ None) × (1 ≤ a.period) × (a.cmin ≤ a.cmax) × (a.cmin ≡ 0)
BreaksTaskRule before a row (fault.Twice at earlier) = (at ≡ row) × IsTask a × (k : ℕ) × (k < length before) × (earlier ≡ k + 1) × ((task_at before k).task ≡ a.task)
BreaksTaskRule before a row (fault.Late at) = ⊥
BreaksTaskRule before a row fault.TooMany = ⊥
BreaksTaskRule before a row fault.Memory = ⊥

-- The tasks before this one keep the rules, and the fault is the first rule that it breaks.
pub record FirstBrokenTask (tasks : List Task) (e : TaskFault) : Type 0 where
  pub before : List Task
  pub here : Task
  pub after : List Task
  pub split : tasks ≡ before ++ here ∷ after
  pub kept : AreTasks before
  pub breaks : BreaksTaskRule before here (length before + 1) e

-- a fault of CSV, of which want of memory is no rule that a file breaks
abbrev pub task_fault_of : CsvFault → TaskFault
task_fault_of csv.Memory = fault.Memory
task_fault_of e = fault.Csv e

-- The first rule that a file breaks: the CSV rules of all rows; then, of rows that are all numbers, by row the rules of tasks.
abbrev pub FirstTaskFault : List ℕ → TaskFault → Type 0
FirstTaskFault bytes (fault.Csv e) = (e ≢ csv.Memory) × FirstFault bytes 7 e
FirstTaskFault bytes fault.Memory = ⊤
FirstTaskFault bytes e = (tasks : List Task) × TaskRows bytes tasks × FirstBrokenTask tasks e
