-- What tasks keep.
--     IsTask a          a task by itself
--     AreTasks tasks    the tasks of a file
use Rattle.std.specs.Prelude.{◌≢◌, List, ◌≤◌, All, AllPairs}
use Rattle.job_model.specs.declared.limits.TheConstants.{MOST_COST}
use Rattle.task_unroll.specs.declared.limits.TheConstants.{MOST_TASK_TIME}
use Rattle.task_unroll.specs.declared.task.Task.{Task}

-- What a task keeps: its times are within their limits, it has a period, its costs are in order and within their limit, and its
-- jobs cost something.
pub record IsTask (a : Task) : Type 0 where
  pub has_period : 1 ≤ a.period
  pub period_limit : a.period ≤ MOST_TASK_TIME
  pub offset_limit : a.offset ≤ MOST_TASK_TIME
  pub jitter_limit : a.jitter ≤ MOST_TASK_TIME
  pub deadline_limit : a.deadline ≤ MOST_TASK_TIME
  pub costs_something : 1 ≤ a.cmin
  pub costs : a.cmin ≤ a.cmax
  pub cost_limit : a.cmax ≤ MOST_COST

-- What the tasks of a file keep: each keeps the rules, and no two have the same ID.
pub record AreTasks (tasks : List Task) : Type 0 where
  pub each : All IsTask tasks
  pub ids_differ : AllPairs (λ a b. a.task ≢ b.task) tasks
