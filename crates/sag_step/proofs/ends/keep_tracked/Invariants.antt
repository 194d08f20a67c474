use Rattle.std.proofs.Common.{◌≡◌, ◌++◌, drop, false}
use Rattle.std.specs.Map.{keys_of}
use Rattle.std.specs.Ordering.{nat_cmp}
use Rattle.std.specs.BTreeMap.{insert_entry}
use Rattle.job_sets.specs.Subset.{is_member}
use Rattle.sag_step.specs.Next.{still_tracked}
use Rattle.sag_step.proofs.ListsOfEnds.{left_from}
use Rattle.sag_step.proofs.ends.keep_tracked.Given as goal

-- what is kept so far, and what is kept of the ends that are left
abbrev pub invariant-loop-place : goal.invariant-loop-place
invariant-loop-place l = record {
  new : is_member l.job (keys_of (drop l.place l.from.items)) ≡ false;
  kept :
      l.into.items ++ still_tracked l.table l.set.members (left_from l.table l.set.members l.from.items l.job l.finish l.place l.waits)
      ≡ still_tracked l.table l.set.members (insert_entry nat_cmp l.from.items l.job l.finish);
  room : l.into.room ≡ l.fn.into.room;
}
