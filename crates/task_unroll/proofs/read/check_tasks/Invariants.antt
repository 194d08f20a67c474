use Rattle.std.proofs.Common.{◌≡◌, map, take}
use Rattle.task_unroll.specs.Tasks.{AreTasks}
use Rattle.task_unroll.proofs.read.check_tasks.Given as goal

-- the tasks so far keep the rules, and the set has their IDs
abbrev pub invariant-loop-i : goal.invariant-loop-i
invariant-loop-i l = record { are : AreTasks (take l.i l.tasks); ids : l.ids.keys ≡ map (λ x. x.task) (take l.i l.tasks) }
