use Rattle.std.proofs.Common.{◌≡◌}
use Rattle.state_calls.proofs.sag_step_calls.shape.set_of.Given as goal

abbrev pub invariant-loop-no : goal.invariant-loop-no
invariant-loop-no l = l.set.size ≡ l.size
