-- Costs and a deadline that a job is given anew.
--     MayCost cmin cmax                        costs that a job may have
--     job_with_times a cmin cmax deadline      the job with these
--     with_times table j cmin cmax deadline    the table once job j has these
use Rattle.std.specs.Prelude.{ℕ, ◌≤◌, slice_set}
use Rattle.job_model.specs.declared.job_row.Job.{Job}
use Rattle.job_model.specs.declared.limits.TheConstants.{MOST_COST}
use Rattle.job_model.specs.Table.{Table, job_at}

-- a job may have these costs: some, in order, and within the limit
pub record MayCost (cmin cmax : ℕ) : Type 0 where
  pub costs_something : 1 ≤ cmin
  pub costs : cmin ≤ cmax
  pub cost_limit : cmax ≤ MOST_COST

-- the job with these costs and this deadline
abbrev pub job_with_times : Job → ℕ → ℕ → ℕ → Job
job_with_times a cmin cmax deadline = record a { cmin = cmin; cmax = cmax; deadline = deadline }

-- the table once job j has these costs and this deadline
abbrev pub with_times : Table → ℕ → ℕ → ℕ → ℕ → Table
with_times table j cmin cmax deadline = record table { jobs = slice_set table.jobs j (job_with_times (job_at table j) cmin cmax deadline) }
