-- The text of a job table, as it is written.
--     jobs_heading      the words of its first line
--     jobs_text table   the heading, and a row for each job by its number
use Rattle.std.specs.Prelude.{ℕ, List, [], ◌∷◌, codes, map}
use Rattle.csv_numbers.specs.RowsText.{rows_text}
use Rattle.job_model.specs.JobRow.{job_columns}
use Rattle.job_model.specs.Table.{Table}

-- the words of the first line
abbrev pub jobs_heading : List (List ℕ)
jobs_heading =
    codes "Task ID" ∷ codes "Job ID" ∷ codes "Arrival min" ∷ codes "Arrival max" ∷ codes "Cost min" ∷ codes "Cost max" ∷ codes "Deadline" ∷ codes "Priority" ∷ []

-- the heading, and a row for each job by its number
abbrev pub jobs_text : Table → List ℕ
jobs_text table = rows_text jobs_heading (map job_columns table.jobs)
