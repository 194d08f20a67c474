-- What the code of the comparison speaks of.
--     AreSpans table m spans         there is a span for each job, that of the graph of the table
--     HasTaken table m k bounds      the first k trials were taken, and the ends are those over them
use Rattle.std.specs.Prelude.{◌≡◌, ℕ, List, None, Some, length, slice_get, slice_index_or}
use Rattle.sag_time.specs.Interval.{Interval}
use Rattle.job_model.specs.Table.{Table}
use Rattle.sag_graph.specs.Graph.{graph_of}
use Rattle.gap_report.specs.InnerBounds.{InnerBounds}
use Rattle.gap_report.specs.InnerEnds.{HoldInnerEnds}
use Rattle.gap_trials.specs.Trials.{trial_of}

-- There is a span for each job, that of the graph of the table.
pub record AreSpans (table : Table) (m : ℕ) (spans : List Interval) : Type 0 where
  pub one_each : length spans ≡ length table.jobs
  pub each : (j : ℕ) (span : Interval) → slice_get spans j ≡ Some span → slice_index_or (graph_of table m).spans j None ≡ Some span

-- The first k trials of the table were taken, and the ends are those over them.
pub record HasTaken (table : Table) (m k : ℕ) (bounds : InnerBounds) : Type 0 where
  pub table_is : bounds.table ≡ table
  pub cores_are : bounds.cores ≡ m
  pub count : bounds.taken ≡ k
  pub ends : HoldInnerEnds (trial_of table m) bounds
