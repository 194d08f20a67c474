-- Laws of reports.
--     ResponsesWithinWcrt    a job that finishes within its span responds within the WCRT of its task
use Rattle.std.specs.Prelude.{◌≡◌, ℕ, ◌≤◌, ◌<◌, List, Some, length, slice_get}
use Rattle.sag_time.specs.Interval.{Interval}
use Rattle.job_model.specs.Table.{Table, job_at}
use Rattle.response_report.specs.ReportRows.{report_rows, response_time, task_rows, wcrt_in}

-- A job that finishes by the end of its span responds within the WCRT that the report has for its task.
abbrev pub ResponsesWithinWcrt : Type 0
ResponsesWithinWcrt =
    (table : Table) (spans : List Interval) (j : ℕ) (span : Interval) (finish : ℕ) → j < length table.jobs → slice_get spans j ≡ Some span → finish ≤ span.hi →
    response_time (job_at table j) finish ≤ wcrt_in (task_rows (report_rows table spans)) (job_at table j).task
