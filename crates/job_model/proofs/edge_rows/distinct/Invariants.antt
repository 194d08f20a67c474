use Rattle.std.proofs.Common.{◌≡◌, take}
use Rattle.job_model.specs.EdgeFaults.{edges_of}
use Rattle.job_model.proofs.edge_rows.distinct.Given as goal

-- the set has the edges of the rows so far
abbrev pub invariant-loop-row : goal.invariant-loop-row
invariant-loop-row l = l.edges.keys ≡ edges_of (take l.row-index l.rows)
