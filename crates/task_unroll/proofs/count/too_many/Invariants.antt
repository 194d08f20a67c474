use Rattle.std.proofs.Common.{◌≡◌, ◌≤◌, take}
use Rattle.job_model.specs.declared.limits.TheConstants.{MOST_JOBS}
use Rattle.task_unroll.specs.Unrolled.{released_count}
use Rattle.task_unroll.proofs.count.too_many.Given as goal

-- the jobs of the tasks so far were counted, and are not too many
abbrev pub invariant-loop-task : goal.invariant-loop-task
invariant-loop-task l = record { counted : l.jobs ≡ released_count (take l.task-index l.tasks) l.horizon; few : l.jobs ≤ MOST_JOBS }
