use Rattle.std.proofs.Common.{◌≡◌, max}
use Rattle.sag_time.proofs.ZippedLists.{zipped_to}
use Rattle.sag_time.proofs.avail.Avail.raise_to.Given as goal

abbrev pub invariant-loop-i : goal.invariant-loop-i
invariant-loop-i l = l.time-items ≡ zipped_to max l.i l.fn.self l.other
