use Rattle.std.proofs.Common.{ℕ, ◌<◌}
use Rattle.job_model.specs.Scenario.{CanRunAs, cost_of, release_of}
use Rattle.job_model.specs.Table.{job_at}
use Rattle.job_model.proofs.scenario.Scenario.new.Given as goal

-- the jobs so far may run so
abbrev pub invariant-loop-j : goal.invariant-loop-j
invariant-loop-j l = (j : ℕ) → j < l.j → CanRunAs (job_at l.table j) (release_of l.fn.rows.items j) (cost_of l.fn.rows.items j)
