use Rattle.std.proofs.Common.{◌≡◌, map}
use Rattle.std.specs.List.{range_with_len}
use Rattle.job_model.specs.Table.{job_at}
use Rattle.gap_report.specs.Trials.{plain_row}
use Rattle.gap_report.proofs.trials.plain_trial.Given as goal

-- the rows of the jobs so far
abbrev pub invariant-loop-j : goal.invariant-loop-j
invariant-loop-j l = l.rows.items ≡ map (λ j. plain_row (job_at l.table j) j l.trial) (range_with_len 0 l.j)
