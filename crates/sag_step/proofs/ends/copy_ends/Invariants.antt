use Rattle.std.proofs.Common.{◌≡◌, ◌++◌, drop, length}
use Rattle.sag_step.proofs.ends.copy_ends.Given as goal

-- what is copied and what is left are the list
abbrev pub invariant-loop-place : goal.invariant-loop-place
invariant-loop-place l = record {
  whole : l.copy.items ++ drop l.place l.ends.items ≡ l.ends.items;
  room : l.copy.room ≡ length l.ends.items;
}
