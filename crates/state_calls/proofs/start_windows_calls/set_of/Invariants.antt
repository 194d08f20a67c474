use Rattle.std.proofs.Common.{◌≡◌, length}
use Rattle.state_calls.proofs.start_windows_calls.set_of.Given as goal

abbrev pub invariant-loop-no : goal.invariant-loop-no
invariant-loop-no l = l.set.size ≡ length l.table.jobs
