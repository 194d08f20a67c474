use Rattle.std.proofs.Common.{◌≡◌, ◌&&◌, drop, filter}
use Rattle.std.specs.Map.{keys_of}
use Rattle.job_sets.proofs.Filters.{is_left_of}
use Rattle.sag_step.specs.State.{is_tracked}
use Rattle.sag_step.specs.Next.{runs_past}
use Rattle.sag_step.proofs.ends.keep_staying.Given as goal

-- of the jobs so far those are left that stay
abbrev pub invariant-loop-place : goal.invariant-loop-place
invariant-loop-place l = record {
  size : l.into.size ≡ l.fn.into.size;
  members :
      l.into.members
      ≡ filter (is_left_of (λ i. runs_past l.ends.items l.latest i && is_tracked l.table l.set.members i) (keys_of (drop l.place l.ends.items))) l.fn.into.members;
}
