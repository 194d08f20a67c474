use Rattle.std.proofs.Common.{take}
use Rattle.std.specs.Prelude.{All}
use Rattle.task_unroll.specs.UnrollFaults.{IsLate}
use Rattle.task_unroll.proofs.count.first_late.Given as goal

-- no task so far is late
abbrev pub invariant-loop-i : goal.invariant-loop-i
invariant-loop-i l = All (λ a. ¬ IsLate l.horizon a) (take l.i l.tasks)
