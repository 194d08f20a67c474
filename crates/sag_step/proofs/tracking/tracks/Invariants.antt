use Rattle.std.proofs.Common.{◌≡◌, ◌≤◌, drop, length}
use Rattle.std.specs.Prelude.{nat_eq}
use Rattle.std.specs.Map.{keys_of}
use Rattle.std.specs.Cmp.Lexicographic.{pointwise}
use Rattle.sag_step.specs.State.{tracked_jobs}
use Rattle.sag_step.proofs.ListsOfEnds.{tracked_from}
use Rattle.sag_step.proofs.tracking.tracks.Given as goal

-- it depends on what is left of both
abbrev pub invariant-loop-job : goal.invariant-loop-job
invariant-loop-job l = record {
  within : l.place ≤ length l.ends.items;
  no_more : l.place ≤ l.job;
  left :
      pointwise nat_eq (keys_of l.ends.items) (tracked_jobs l.table l.set.members)
      ≡ pointwise nat_eq (keys_of (drop l.place l.ends.items)) (tracked_from l.table l.set.members l.job l.set.size);
}
