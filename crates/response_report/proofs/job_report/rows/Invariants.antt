use Rattle.std.proofs.Common.{◌≡◌, take}
use Rattle.response_report.specs.ReportRows.{report_rows}
use Rattle.response_report.proofs.job_report.rows.Given as goal

-- the rows of the jobs so far
abbrev pub invariant-loop-no : goal.invariant-loop-no
invariant-loop-no l = l.rows.items ≡ take l.no (report_rows l.table l.spans)
