-- Why tasks are not unrolled. Rows are counted from 1.
--     IsLate horizon a                               one of the task's jobs may be released too late
--     IsFirstLate tasks horizon row                  the row of the first such task
--     FirstUnrollFault policy tasks horizon fault    the first reason; want of memory may come at any tasks
use Rattle.std.specs.Prelude.{◌≡◌, ℕ, ◌+◌, ◌<◌, List, ◌∷◌, ◌++◌, All, length, ⊤}
use Rattle.job_model.specs.declared.limits.TheConstants.{MOST_ARRIVAL, MOST_JOBS}
use Rattle.task_unroll.specs.declared.task.Task.{Task}
use Rattle.task_unroll.specs.declared.task.Policy.{Policy}
use Rattle.task_unroll.specs.declared.fault.TaskFault.{TaskFault}
use Rattle.task_unroll.specs.declared.fault.TaskFault.TheVariants as fault
use Rattle.task_unroll.specs.Unrolled.{release_at, unrolled}

-- Job k + 1 of the task is one of those before the horizon, and its latest release is after the latest arrival.
pub record IsLate (horizon : ℕ) (a : Task) : Type 0 where
  pub k : ℕ
  pub released : release_at a k < horizon
  pub late : MOST_ARRIVAL < release_at a k + a.jitter

-- The task of this row has a job that may be released too late, and no task before it has one.
pub record IsFirstLate (tasks : List Task) (horizon row : ℕ) : Type 0 where
  pub before : List Task
  pub here : Task
  pub after : List Task
  pub split : tasks ≡ before ++ here ∷ after
  pub place : row ≡ length before + 1
  pub on_time : All (λ a. ¬ IsLate horizon a) before
  pub late : IsLate horizon here

-- The first reason: by row a job that may be released too late; and then, more jobs than a table may have.
abbrev pub FirstUnrollFault : Policy → List Task → ℕ → TaskFault → Type 0
FirstUnrollFault policy tasks horizon (fault.Late row) = IsFirstLate tasks horizon row
FirstUnrollFault policy tasks horizon fault.TooMany = All (λ a. ¬ IsLate horizon a) tasks × (MOST_JOBS < length (unrolled policy tasks horizon))
FirstUnrollFault policy tasks horizon fault.Memory = ⊤
FirstUnrollFault policy tasks horizon other = ⊥
