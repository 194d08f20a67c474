use Rattle.std.proofs.Common.{◌≡◌, ◌++◌, map}
use Rattle.lists.specs.Numbers.{numbers_below}
use Rattle.task_unroll.specs.Unrolled.{released_job}
use Rattle.task_unroll.proofs.jobs.append_jobs.Given as goal

-- the first jobs of the task stand behind those that were there
abbrev pub invariant-loop-k : goal.invariant-loop-k
invariant-loop-k l = l.jobs.items ≡ l.fn.jobs.items ++ map (released_job l.policy l.task) (numbers_below l.k)
