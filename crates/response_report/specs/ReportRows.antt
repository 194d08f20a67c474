-- Bounds on the completion and response times of jobs, and of tasks.
--     report_row job span        the row of a job that completes in the span
--     report_rows table spans    the row of each job, by its number
--     wcrt_in tasks task         the worst-case response time that a list of tasks has for a task, or 0 of none
--     with_row tasks row         the list once the row counts too
--     task_rows rows             each task of the rows with its worst-case response time, by rising task
--     task_wcrt rows task        the greatest worst-case response time of the jobs of a task
--     response_time a finish     the time from the earliest release of a job to its finish
-- BCCT and WCCT are the best-case and the worst-case completion time of a job, BCRT and WCRT its best-case and worst-case
-- response time. A task's WCRT is the greatest of its jobs.
use Rattle.std.specs.Prelude.{ℕ, ◌-◌, ◌==◌, List, [], filter, fold, map, max, unwrap_or}
use Rattle.std.specs.BTreeMap.{insert_entry, is_at}
use Rattle.std.specs.Map.{lookup}
use Rattle.std.specs.Ordering.{nat_cmp}
use Rattle.lists.specs.Numbers.{greatest}
use Rattle.lists.specs.Zipped.{zip_with}
use Rattle.sag_time.specs.Interval.{Interval}
use Rattle.job_model.specs.Table.{Table}
use Rattle.job_model.specs.declared.job_row.Job.{Job}
use Rattle.response_report.specs.declared.report_row.ReportRow.{ReportRow}

-- the time from the earliest release of a job to its finish, or 0 where it finishes before
abbrev pub response_time : Job → ℕ → ℕ
response_time a finish = finish - a.rmin

-- the row of a job that completes in the span
abbrev pub report_row : Job → Interval → ReportRow
report_row a span = record {
  task = a.task;
  job = a.job;
  bcct = span.lo;
  wcct = span.hi;
  bcrt = response_time a span.lo;
  wcrt = response_time a span.hi;
}

-- the row of each job, by its number
abbrev pub report_rows : Table → List Interval → List ReportRow
report_rows table spans = zip_with report_row table.jobs spans

-- the WCRT that a list of tasks has for a task, or 0 of none
abbrev pub wcrt_in : List (ℕ × ℕ) → ℕ → ℕ
wcrt_in tasks task = unwrap_or (lookup (is_at (nat_cmp task)) tasks) 0

-- the list once the row counts too: its task has the greater of the WCRT that it had and the row's
abbrev pub with_row : List (ℕ × ℕ) → ReportRow → List (ℕ × ℕ)
with_row tasks row = insert_entry nat_cmp tasks row.task (max (wcrt_in tasks row.task) row.wcrt)

-- each task of the rows with its WCRT, by rising task
unfoldable pub task_rows : List ReportRow → List (ℕ × ℕ)
task_rows rows = fold with_row [] rows

-- the greatest WCRT of the rows of a task
abbrev pub task_wcrt : List ReportRow → ℕ → ℕ
task_wcrt rows task = greatest (map (λ row. row.wcrt) (filter (λ row. row.task == task) rows))
