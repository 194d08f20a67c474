use Rattle.std.proofs.Common.{◌≡◌, map, take}
use Rattle.response_report.specs.ReportText.{report_columns}
use Rattle.response_report.proofs.job_report.write_report.Given as goal

-- the numbers of the rows so far
abbrev pub invariant-loop-row : goal.invariant-loop-row
invariant-loop-row l = l.columns.items ≡ map report_columns (take l.row-index l.rows)
