use Rattle.std.proofs.Common.{◌<◌, take}
use Rattle.std.specs.List.{AllZip}
use Rattle.job_model.specs.Table.{IsTable}
use Rattle.side_csv.specs.EditsText.{GivesEdit}
use Rattle.side_csv.proofs.edits.edits_of_rows.Given as goal

-- the edits of the rows so far
abbrev pub invariant-loop-i : goal.invariant-loop-i
invariant-loop-i l = record { given : AllZip (GivesEdit l.table) (take l.i l.rows) l.edits.items; table : 0 < l.i → IsTable l.table }
