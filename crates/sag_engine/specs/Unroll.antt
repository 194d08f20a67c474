-- The command `unroll`.
--     TasksJudged bytes end                    the tasks of a task file, or the first rule that the file breaks
--     TasksUnrolled policy tasks horizon end   the table of the jobs that tasks release before the horizon, or why there is none
--     tasks_plan name                          a task file is read, and judged
--     unrolled_plan tasks horizon policy       its tasks are unrolled
--     unroll_plan, unroll_files                its file, and the work that it comes to
--     IsJobFileReply table reply               this may be printed for the table
--     PrintsJobFile, PrintsJobFiles            the job file that was printed, and what it means
use Rattle.std.specs.Prelude.{ℕ, ◌≡◌, ◌≢◌, ◌≤◌, List, [], ◌∷◌, length, Result, Ok, Err}
use Rattle.sag_edge.specs.Reading.{SeenFiles}
use Rattle.sag_edge.specs.Writing.{SeenSink, GrowsBy}
use Rattle.sag_texts.specs.declared.fault.FileKind.{FileKind}
use Rattle.sag_texts.specs.declared.fault.FileKind.TheVariants as kinds
use Rattle.sag_texts.specs.declared.fault.Fault.{Fault}
use Rattle.sag_texts.specs.declared.fault.Fault.TheVariants as faults
use Rattle.sag_words.specs.declared.command.Command.TheVariants as commands
use Rattle.sag_words.specs.Words.{WordsOf}
use Rattle.job_csv.specs.Jobs.{JobRows}
use Rattle.job_csv.specs.JobsText.{jobs_text}
use Rattle.job_model.specs.Table.{IsTable, Table, table_of}
use Rattle.task_unroll.specs.declared.fault.TaskFault.{TaskFault}
use Rattle.task_unroll.specs.declared.fault.TaskFault.TheVariants as tasks
use Rattle.task_unroll.specs.declared.task.Policy.{Policy}
use Rattle.task_unroll.specs.declared.task.Task.{Task}
use Rattle.task_unroll.specs.TaskFaults.{FirstTaskFault}
use Rattle.task_unroll.specs.TaskRows.{TaskRows}
use Rattle.task_unroll.specs.Tasks.{AreTasks}
use Rattle.task_unroll.specs.UnrollFaults.{FirstUnrollFault}
use Rattle.task_unroll.specs.Unrolled.{unrolled}
use Rattle.sag_engine.specs.declared.conclusion.Conclusion.TheVariants.{Done}
use Rattle.sag_engine.specs.declared.fetch.TheConstants.{MOST_FILE_BYTES}
use Rattle.sag_engine.specs.declared.status.Status.{Status}
use Rattle.sag_engine.specs.declared.status.Status.TheVariants as statuses
use Rattle.sag_engine.specs.Plan.{AreBytesOf, Plan, ◌>>=◌, file_plan, judged}
use Rattle.sag_engine.specs.Plan.Plan.{Ends}
use Rattle.sag_engine.specs.Inputs.{JobsJudged}
use Rattle.sag_engine.specs.Work.{Work, Reply}
use Rattle.sag_engine.specs.Work.Work.{Unrolls}

-- The tasks of a task file, or the first rule that the file breaks. Want of memory is no refusal.
abbrev pub TasksJudged : List ℕ → Result (List Task) Fault → Type 0
TasksJudged bytes (Ok list) = TaskRows bytes list × AreTasks list
TasksJudged bytes (Err fault) = (e : TaskFault) × (fault ≡ faults.Tasks e) × (e ≢ tasks.Memory) × FirstTaskFault bytes e

-- The table of the jobs that tasks release before the horizon, or the first reason why there is none.
abbrev pub TasksUnrolled : Policy → List Task → ℕ → Result Table Fault → Type 0
TasksUnrolled policy list horizon (Ok table) = (table ≡ table_of (unrolled policy list horizon)) × IsTable table
TasksUnrolled policy list horizon (Err fault) = (e : TaskFault) × (fault ≡ faults.Tasks e) × (e ≢ tasks.Memory) × FirstUnrollFault policy list horizon e

-- the task file
unfoldable pub tasks_plan : List ℕ → Plan (Result (List Task) Fault)
tasks_plan name = do
  bytes ← file_plan kinds.Tasks name MOST_FILE_BYTES
  judged (TasksJudged bytes)

-- the task file, and the table of the jobs that its tasks release
unfoldable pub unrolled_plan : List ℕ → ℕ → Policy → Plan (Result Table Fault)
unrolled_plan name horizon policy = do
  list ← tasks_plan name
  judged (TasksUnrolled policy list horizon)

-- its file, and the work that it comes to
abbrev pub unroll_plan : List ℕ → ℕ → Policy → Plan (Result Work Fault)
unroll_plan name horizon policy = do
  table ← unrolled_plan name horizon policy
  Ends (Ok (Unrolls table))

-- the kind and name of its file
abbrev pub unroll_files : List ℕ → List (FileKind × List ℕ)
unroll_files name = (kinds.Tasks, name) ∷ []

-- The text of the table is printed, and it reads as its jobs.
abbrev pub IsJobFileReply : Table → Reply → Type 0
IsJobFileReply table reply = (reply ≡ record { conclusion = Done; bytes = jobs_text table }) × JobRows (jobs_text table) table.jobs

-- The jobs that the tasks of the file release before the horizon were printed as a job file, whose rows are accepted as a table.
pub record PrintsJobFile (name : List ℕ) (horizon : ℕ) (policy : Policy) (files : SeenFiles) (out out' : SeenSink) : Type 0 where
  pub bytes : List ℕ
  pub are : AreBytesOf files.contents name bytes
  pub few : length bytes ≤ MOST_FILE_BYTES
  pub list : List Task
  pub rows : TaskRows bytes list
  pub are_tasks : AreTasks list
  -- the job file that was printed
  pub text : List ℕ
  pub printed : GrowsBy out.taken out'.taken text
  pub accepted : JobsJudged text (Ok (table_of (unrolled policy list horizon)))

-- where the words ask to unroll tasks and it was done, the job file of their jobs was printed
abbrev pub PrintsJobFiles : List (List ℕ) → SeenFiles → SeenSink → SeenSink → Status → Type 0
PrintsJobFiles words files out out' status = status ≡ statuses.Ok → (name : List ℕ) (horizon : ℕ) (policy : Policy)
    → WordsOf words (commands.Unroll name horizon policy) → PrintsJobFile name horizon policy files out out'
