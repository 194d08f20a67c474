use Rattle.std.proofs.Common.{◌≡◌}
use Rattle.state_calls.proofs.run_cover_calls.add_first.Given as goal

abbrev pub invariant-loop-no : goal.invariant-loop-no
invariant-loop-no l = l.set.size ≡ l.fn.set.size
