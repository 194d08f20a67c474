use Rattle.start_windows.specs.Eligible.{IsFront}
use Rattle.start_windows.proofs.front.front_from.Given as goal

-- the jobs so far are dispatched
abbrev pub invariant-loop-place : goal.invariant-loop-place
invariant-loop-place l = IsFront l.table l.set.members l.place
