use Rattle.std.proofs.Common.{◌≡◌, ◌++◌, take, drop, length}
use Rattle.std.specs.Map.{keys_of}
use Rattle.lists.specs.Zipped.{zip_with}
use Rattle.sag_step.specs.Widen.{end_hull}
use Rattle.sag_step.proofs.ends.widen_ends.Given as goal

-- the hulls so far and those that are left
abbrev pub invariant-loop-place : goal.invariant-loop-place
invariant-loop-place l = record {
  jobs : keys_of (drop l.place l.ends.items) ≡ keys_of (drop l.place l.other.items);
  hulls : take l.place l.ends.items ++ zip_with end_hull (drop l.place l.ends.items) (drop l.place l.other.items) ≡ zip_with end_hull l.initial.ends.items l.other.items;
  count : length l.ends.items ≡ length l.initial.ends.items;
  room : l.ends.room ≡ l.initial.ends.room;
}
