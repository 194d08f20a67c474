use Rattle.std.proofs.Common.{◌≡◌, map, take}
use Rattle.job_model.specs.JobRow.{job_columns}
use Rattle.job_csv.proofs.write.write_jobs.Given as goal

-- the rows of the jobs so far
abbrev pub invariant-loop-no : goal.invariant-loop-no
invariant-loop-no l = l.rows.items ≡ map job_columns (take l.no l.table.jobs)
