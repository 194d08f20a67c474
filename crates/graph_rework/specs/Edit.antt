-- An edit of one job's costs and deadline.
--     HasReleaseOf before after     the job is released as before, and as urgent
--     IsEdit e before after         the tables differ in the costs and the deadline of job e alone
--     stays e state                 job e has not started, so an edit of it leaves the state as it is
use Rattle.std.specs.Prelude.{◌≡◌, ◌≢◌, ℕ, Bool, not, length}
use Rattle.job_sets.specs.Subset.{is_member}
use Rattle.job_model.specs.declared.job_row.Job.{Job}
use Rattle.job_model.specs.Table.{Table, job_at}
use Rattle.sag_step.specs.State.{SystemState}

-- what an edit of costs and deadline keeps of a job
pub record HasReleaseOf (before after : Job) : Type 0 where
  pub task : after.task ≡ before.task
  pub job : after.job ≡ before.job
  pub rmin : after.rmin ≡ before.rmin
  pub rmax : after.rmax ≡ before.rmax
  pub priority : after.priority ≡ before.priority

-- The tables differ in the costs and the deadline of job e alone.
pub record IsEdit (e : ℕ) (before after : Table) : Type 0 where
  pub edges : after.edges ≡ before.edges
  pub count : length after.jobs ≡ length before.jobs
  pub own : (j : ℕ) → HasReleaseOf (job_at before j) (job_at after j)
  pub others : (j : ℕ) → j ≢ e → job_at after j ≡ job_at before j

-- Job e has not started, so an edit of it leaves the state as it is.
abbrev pub stays : ℕ → SystemState → Bool
stays e state = not (is_member e state.set.members)
