use Rattle.std.proofs.Common.{◌≡◌, take}
use Rattle.response_report.specs.ReportRows.{task_rows}
use Rattle.response_report.proofs.task_report.wcrt_by_task.Given as goal

-- the tasks of the rows so far
abbrev pub invariant-loop-row : goal.invariant-loop-row
invariant-loop-row l = l.tasks.entries ≡ task_rows (take l.row-index l.rows)
