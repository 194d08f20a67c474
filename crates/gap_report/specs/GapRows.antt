-- Bounds beside the finishes of runs.
--     no_inner_ends, no_finish_span    read only past the end of a list
--     gap_row job ends span            the row of a job with these ends, whose bounds are this span
--     gap_rows table ends spans        the row of each job, by its number
-- BCCT and WCCT are the best-case and the worst-case completion time of a job, by its span. The inner BCCT and the inner WCCT
-- are the least and the greatest completion time that the runs of some trials attain.
use Rattle.std.specs.Prelude.{List, length, map, slice_index_or}
use Rattle.lists.specs.Numbers.{numbers_below}
use Rattle.sag_time.specs.Interval.{Interval}
use Rattle.job_model.specs.Table.{Table, job_at}
use Rattle.job_model.specs.declared.job_row.Job.{Job}
use Rattle.gap_report.specs.declared.gap_row.GapRow.{GapRow}
use Rattle.gap_report.specs.declared.inner_ends.InnerEnds.{InnerEnds}

-- read only past the end of a list of ends
abbrev pub no_inner_ends : InnerEnds
no_inner_ends = record { lo = 0; lo_trial = 0; hi = 0; hi_trial = 0 }

-- read only past the end of a list of spans
abbrev pub no_finish_span : Interval
no_finish_span = record { lo = 0; hi = 0 }

-- the row of a job with these ends, whose bounds are this span
abbrev pub gap_row : Job → InnerEnds → Interval → GapRow
gap_row a ends span = record {
  task = a.task;
  job = a.job;
  bcct = span.lo;
  inner_lo = ends.lo;
  lo_trial = ends.lo_trial;
  inner_hi = ends.hi;
  hi_trial = ends.hi_trial;
  wcct = span.hi;
}

-- the row of each job, by its number
abbrev pub gap_rows : Table → List InnerEnds → List Interval → List GapRow
gap_rows table ends spans =
    map (λ j. gap_row (job_at table j) (slice_index_or ends j no_inner_ends) (slice_index_or spans j no_finish_span)) (numbers_below (length table.jobs))
