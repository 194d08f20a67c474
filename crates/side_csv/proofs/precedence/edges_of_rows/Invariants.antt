use Rattle.std.proofs.Common.{◌<◌, take}
use Rattle.std.specs.List.{AllZip}
use Rattle.job_model.specs.Table.{IsTable}
use Rattle.side_csv.specs.PrecedenceText.{NamesEdge}
use Rattle.side_csv.proofs.precedence.edges_of_rows.Given as goal

-- the edges of the rows so far
abbrev pub invariant-loop-i : goal.invariant-loop-i
invariant-loop-i l = record { named : AllZip (NamesEdge l.table) (take l.i l.rows) l.edges.items; table : 0 < l.i → IsTable l.table }
