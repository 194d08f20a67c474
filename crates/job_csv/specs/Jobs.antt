-- What a job file reads as.
--     JobRows bytes jobs     the text is a heading, and a row for each job
use Rattle.std.specs.Prelude.{ℕ, List, map}
use Rattle.csv_numbers.specs.Rows.{Rows}
use Rattle.job_model.specs.JobRow.{job_columns}
use Rattle.job_model.specs.declared.job_row.Job.{Job}

-- the text is a heading, whatever it holds, and a row of eight numbers for each job
abbrev pub JobRows : List ℕ → List Job → Type 0
JobRows bytes jobs = Rows bytes 8 (map job_columns jobs)
