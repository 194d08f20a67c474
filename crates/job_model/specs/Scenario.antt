-- Scenarios: what releases and costs turn out to be, for each job by its number.
--     release_of scenario j, cost_of scenario j      those of job number j
--     Fits table scenario                            each is in its job's interval
use Rattle.std.specs.Prelude.{◌≡◌, ℕ, List, ◌≤◌, ◌<◌, length, slice_index_or}
use Rattle.job_model.specs.declared.job_row.Job.{Job}
use Rattle.job_model.specs.Table.{Table, job_at}

-- the release of job number j
abbrev pub release_of : List (ℕ × ℕ) → ℕ → ℕ
release_of scenario j = (slice_index_or scenario j (0, 0)).0

-- the cost of job number j
abbrev pub cost_of : List (ℕ × ℕ) → ℕ → ℕ
cost_of scenario j = (slice_index_or scenario j (0, 0)).1

-- the job may be released at that moment, and cost so much
pub record CanRunAs (a : Job) (release cost : ℕ) : Type 0 where
  pub not_before : a.rmin ≤ release
  pub not_after : release ≤ a.rmax
  pub at_least : a.cmin ≤ cost
  pub at_most : cost ≤ a.cmax

-- The scenario has a release and a cost for each job, in the job's intervals.
pub record Fits (table : Table) (scenario : List (ℕ × ℕ)) : Type 0 where
  pub one_each : length scenario ≡ length table.jobs
  pub each : (j : ℕ) → j < length table.jobs → CanRunAs (job_at table j) (release_of scenario j) (cost_of scenario j)
