use Rattle.std.proofs.Common.{length}
use Rattle.job_model.specs.Neighbours.{JoinJobs}
use Rattle.subject_calls.proofs.job_model_edges_calls.rows_of.Given as goal

abbrev pub invariant-loop-before : goal.invariant-loop-before
invariant-loop-before l = JoinJobs (length l.table.jobs) l.rows.items
