use Rattle.std.proofs.Common.{◌≡◌, ◌-◌, ◌≤◌, length, drop, filter}
use Rattle.std.specs.Prelude.{nat_eq}
use Rattle.std.specs.Map.{keys_of}
use Rattle.std.specs.Cmp.Lexicographic.{pointwise}
use Rattle.job_sets.specs.Subset.{with_number}
use Rattle.sag_step.specs.State.{is_tracked}
use Rattle.sag_step.specs.Tracks.{lists_tracked}
use Rattle.sag_step.proofs.tracking.tracks_next.Given as goal

abbrev pub invariant-loop-place : goal.invariant-loop-place
invariant-loop-place l = record {
  reached : l.at ≤ length l.from.items;
  within : l.place ≤ length l.ends.items;
  left :
      pointwise nat_eq (keys_of l.ends.items) (filter (is_tracked l.table l.set.members) (with_number l.job (keys_of l.from.items)))
      ≡ lists_tracked l.table l.set.members l.ends.items l.place (with_number l.job (keys_of (drop l.at l.from.items)));
}

abbrev pub decreases-loop-place : goal.decreases-loop-place
decreases-loop-place l = length l.from.items - l.at

abbrev pub invariant-loop-later : goal.invariant-loop-later
invariant-loop-later l = record {
  within : l.behind ≤ length l.ends.items;
  left :
      pointwise nat_eq (keys_of l.ends.items) (filter (is_tracked l.table l.set.members) (with_number l.fn.job (keys_of l.from.items)))
      ≡ lists_tracked l.table l.set.members l.ends.items l.behind (keys_of (drop l.later l.from.items));
}
