use Rattle.sag_step.specs.Shape.{Shaped}
use Rattle.state_calls.proofs.sag_step_calls.merging.end_beside_all.Given as goal

abbrev pub invariant-loop-other : goal.invariant-loop-other
invariant-loop-other l = Shaped l.table 1 l.one.state
