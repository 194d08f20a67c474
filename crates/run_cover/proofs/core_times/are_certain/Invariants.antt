use Rattle.std.proofs.Common.{ℕ, ◌<◌, length}
use Rattle.std.specs.Prelude.{nat_le, slice_index}
use Rattle.run_cover.specs.Covers.{core_end, cores_where}
use Rattle.run_cover.proofs.core_times.are_certain.Given as goal

abbrev pub invariant-loop-x : goal.invariant-loop-x
invariant-loop-x l = (k : ℕ) → k < l.x → k < cores_where (length l.high) (λ core. nat_le (core_end l.scenario l.schedule l.set.members core) (slice_index l.high k))
