-- The texts of reports.
--     report_heading, tasks_heading    the words of their first lines
--     report_columns row               the numbers of the row of a job
--     report_text rows                 the heading, and a line for each job
--     tasks_text tasks                 the heading, and a line for each task
use Rattle.std.specs.Prelude.{ℕ, List, [], ◌∷◌, codes, map}
use Rattle.csv_numbers.specs.RowsText.{rows_text}
use Rattle.response_report.specs.declared.report_row.ReportRow.{ReportRow}

-- the words of the first line of a report by job
abbrev pub report_heading : List (List ℕ)
report_heading = codes "Task ID" ∷ codes "Job ID" ∷ codes "BCCT" ∷ codes "WCCT" ∷ codes "BCRT" ∷ codes "WCRT" ∷ []

-- the words of the first line of a report by task
abbrev pub tasks_heading : List (List ℕ)
tasks_heading = codes "Task ID" ∷ codes "WCRT" ∷ []

-- the numbers of the row of a job
abbrev pub report_columns : ReportRow → List ℕ
report_columns row = row.task ∷ row.job ∷ row.bcct ∷ row.wcct ∷ row.bcrt ∷ row.wcrt ∷ []

-- the heading, and a line for each job
abbrev pub report_text : List ReportRow → List ℕ
report_text rows = rows_text report_heading (map report_columns rows)

-- the heading, and a line for each task
abbrev pub tasks_text : List (ℕ × ℕ) → List ℕ
tasks_text tasks = rows_text tasks_heading (map (λ t. t.0 ∷ t.1 ∷ []) tasks)
