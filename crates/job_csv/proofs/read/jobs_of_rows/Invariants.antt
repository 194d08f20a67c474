use Rattle.std.proofs.Common.{◌≡◌, map, take}
use Rattle.job_model.specs.JobRow.{job_columns}
use Rattle.job_csv.proofs.read.jobs_of_rows.Given as goal

-- the jobs of the rows so far
abbrev pub invariant-loop-place : goal.invariant-loop-place
invariant-loop-place l = map job_columns l.jobs.items ≡ take l.place l.rows
