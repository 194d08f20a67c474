-- Laws of task files, and of unrolling.
--     OneTaskList           the bytes of a task file fix its tasks
--     OneTaskFault          it has one first broken rule at most
--     TasksKeepRules        a file whose tasks keep the rules breaks none
--     OneUnrollFault        there is one first reason at most why tasks are not unrolled
--     UnrolledKeepsRules    where their jobs are a job table, there is none
use Rattle.std.specs.Prelude.{◌≡◌, ◌≢◌, ℕ, List}
use Rattle.job_model.specs.Table.{IsTable, table_of}
use Rattle.task_unroll.specs.declared.task.Task.{Task}
use Rattle.task_unroll.specs.declared.task.Policy.{Policy}
use Rattle.task_unroll.specs.declared.fault.TaskFault.{TaskFault}
use Rattle.task_unroll.specs.declared.fault.TaskFault.TheVariants as fault
use Rattle.task_unroll.specs.TaskFaults.{FirstTaskFault}
use Rattle.task_unroll.specs.TaskRows.{TaskRows}
use Rattle.task_unroll.specs.Tasks.{AreTasks}
use Rattle.task_unroll.specs.UnrollFaults.{FirstUnrollFault}
use Rattle.task_unroll.specs.Unrolled.{unrolled}

-- The bytes of a task file fix its tasks.
abbrev pub OneTaskList : Type 0
OneTaskList = (bytes : List ℕ) (one other : List Task) → TaskRows bytes one → TaskRows bytes other → one ≡ other

-- A task file has at most one first broken rule, beside want of memory.
abbrev pub OneTaskFault : Type 0
OneTaskFault =
    (bytes : List ℕ) (one other : TaskFault) → one ≢ fault.Memory → other ≢ fault.Memory → FirstTaskFault bytes one → FirstTaskFault bytes other → one ≡ other

-- A task file whose tasks keep the rules breaks none.
abbrev pub TasksKeepRules : Type 0
TasksKeepRules = (bytes : List ℕ) (tasks : List Task) → TaskRows bytes tasks → AreTasks tasks → (e : TaskFault) → e ≢ fault.Memory → ¬ FirstTaskFault bytes e

-- There is at most one first reason why tasks are not unrolled, beside want of memory.
abbrev pub OneUnrollFault : Type 0
OneUnrollFault =
    (policy : Policy) (tasks : List Task) (horizon : ℕ) (one other : TaskFault) → one ≢ fault.Memory → other ≢ fault.Memory →
    FirstUnrollFault policy tasks horizon one → FirstUnrollFault policy tasks horizon other → one ≡ other

-- Where the jobs of tasks are a job table, there is no reason not to unroll them.
abbrev pub UnrolledKeepsRules : Type 0
UnrolledKeepsRules =
    (policy : Policy) (tasks : List Task) (horizon : ℕ) → AreTasks tasks → IsTable (table_of (unrolled policy tasks horizon)) →
    (e : TaskFault) → e ≢ fault.Memory → ¬ FirstUnrollFault policy tasks horizon e
