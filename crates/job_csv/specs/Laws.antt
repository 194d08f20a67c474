-- Laws of job files.
--     OneJobList   the bytes of a job file fix its jobs
use Rattle.std.specs.Prelude.{◌≡◌, ℕ, List}
use Rattle.job_csv.specs.Jobs.{JobRows}
use Rattle.job_model.specs.declared.job_row.Job.{Job}

-- The bytes of a job file fix its jobs.
abbrev pub OneJobList : Type 0
OneJobList = (bytes : List ℕ) (one other : List Job) → JobRows bytes one → JobRows bytes other → one ≡ other
