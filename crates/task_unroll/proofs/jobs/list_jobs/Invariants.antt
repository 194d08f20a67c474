use Rattle.std.proofs.Common.{◌≡◌, take}
use Rattle.task_unroll.specs.Unrolled.{unrolled}
use Rattle.task_unroll.proofs.jobs.list_jobs.Given as goal

-- the jobs of the tasks so far
abbrev pub invariant-loop-task : goal.invariant-loop-task
invariant-loop-task l = l.jobs.items ≡ unrolled l.policy (take l.task-index l.tasks) l.horizon
