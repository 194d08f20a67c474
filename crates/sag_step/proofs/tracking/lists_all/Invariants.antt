use Rattle.std.proofs.Common.{◌≡◌, ◌≤◌, take}
use Rattle.std.specs.List.{count_by}
use Rattle.std.specs.Map.{keys_of}
use Rattle.job_sets.specs.Subset.{is_member}
use Rattle.sag_step.proofs.tracking.lists_all.Given as goal

-- how many of the jobs so far are members
abbrev pub invariant-loop-place : goal.invariant-loop-place
invariant-loop-place l = record {
  count : l.count ≡ count_by (λ k. is_member k l.set.members) (take l.place (keys_of l.ends.items));
  fewer : l.count ≤ l.place;
}
