use Rattle.std.proofs.Common.{ℕ, ◌<◌, ◌≤◌, length, map, max}
use Rattle.std.specs.Prelude.{nat_lt, slice_index}
use Rattle.lists.specs.Numbers.{greatest}
use Rattle.run_meaning.specs.Ready.{start_of}
use Rattle.run_cover.specs.Covers.{core_end, cores_where}
use Rattle.run_cover.proofs.core_times.are_possible.Given as goal

abbrev pub invariant-loop-x : goal.invariant-loop-x
invariant-loop-x l = (k : ℕ) → k < l.x →
    cores_where (length l.low) (λ core. nat_lt (max (core_end l.scenario l.schedule l.set.members core) (greatest (map (start_of l.schedule) l.set.members))) (slice_index l.low k)) ≤ k
