-- What the rows of a table mean.
--     ends_in row                 the inner ends of a row
--     IsGapRow table m j row      the row has job j, its span in the graph, and its least and greatest finish over all trials
--     AreGapRows table m rows     there is such a row for each job
use Rattle.std.specs.Prelude.{◌≡◌, ℕ, ◌+◌, List, None, Some, length, slice_get, slice_index_or}
use Rattle.job_model.specs.Table.{Table, job_at}
use Rattle.sag_graph.specs.Graph.{graph_of}
use Rattle.gap_report.specs.declared.gap_row.GapRow.{GapRow}
use Rattle.gap_report.specs.declared.inner_ends.InnerEnds.{InnerEnds}
use Rattle.gap_report.specs.InnerEnds.{AreInnerEnds}
use Rattle.gap_report.specs.Trials.{last_trial}
use Rattle.gap_trials.specs.Trials.{trial_of}

-- the inner ends of the row
abbrev pub ends_in : GapRow → InnerEnds
ends_in row = record { lo = row.inner_lo; lo_trial = row.lo_trial; hi = row.inner_hi; hi_trial = row.hi_trial }

-- The row names job j and has its span in the graph. Its inner ends are the job's least and greatest finish over the legal
-- schedules of all trials, each with the first trial that attains it.
pub record IsGapRow (table : Table) (m j : ℕ) (row : GapRow) : Type 0 where
  pub task : row.task ≡ (job_at table j).task
  pub job : row.job ≡ (job_at table j).job
  pub span : slice_index_or (graph_of table m).spans j None ≡ Some (record { lo = row.bcct; hi = row.wcct })
  pub ends : AreInnerEnds table m (trial_of table m) (last_trial table + 1) j (ends_in row)

-- there is a row for each job, by its number
pub record AreGapRows (table : Table) (m : ℕ) (rows : List GapRow) : Type 0 where
  pub one_each : length rows ≡ length table.jobs
  pub each : (j : ℕ) (row : GapRow) → slice_get rows j ≡ Some row → IsGapRow table m j row
