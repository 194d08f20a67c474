-- The text of rows of bounds and inner bounds.
--     gap_heading         the words of the first line
--     gap_columns row     the numbers of the row of a job
--     gap_text rows       the heading, and a line for each row
use Rattle.std.specs.Prelude.{ℕ, List, [], ◌∷◌, codes, map}
use Rattle.csv_numbers.specs.RowsText.{rows_text}
use Rattle.gap_report.specs.declared.gap_row.GapRow.{GapRow}

-- the words of the first line
abbrev pub gap_heading : List (List ℕ)
gap_heading =
    codes "Task ID" ∷ codes "Job ID" ∷ codes "BCCT" ∷ codes "Inner BCCT" ∷ codes "Best trial" ∷ codes "Inner WCCT" ∷ codes "Worst trial" ∷ codes "WCCT" ∷ []

-- the numbers of the row of a job
abbrev pub gap_columns : GapRow → List ℕ
gap_columns row = row.task ∷ row.job ∷ row.bcct ∷ row.inner_lo ∷ row.lo_trial ∷ row.inner_hi ∷ row.hi_trial ∷ row.wcct ∷ []

-- the heading, and a line for each row
abbrev pub gap_text : List GapRow → List ℕ
gap_text rows = rows_text gap_heading (map gap_columns rows)
