use Rattle.std.proofs.Common.{◌≡◌, length}
use Rattle.std.specs.Prelude.{ℕ, None, Some, slice_get, slice_index_or}
use Rattle.sag_time.specs.Interval.{Interval}
use Rattle.gap_trials.proofs.comparison.spans_of.Given as goal

-- the spans of the jobs so far
abbrev pub invariant-loop-j : goal.invariant-loop-j
invariant-loop-j l = record {
  count : length l.spans.items ≡ l.j;
  each : (j : ℕ) (span : Interval) → slice_get l.spans.items j ≡ Some span → slice_index_or l.graph.spans j None ≡ Some span;
}
