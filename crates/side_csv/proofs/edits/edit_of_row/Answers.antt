use Rattle.std.proofs.Common.{refl, sym}
use Rattle.side_csv.proofs.RowLemmas.{names-contained}
use Rattle.side_csv.proofs.edits.edit_of_row.Goals as goal

pub returns-in_default-clause-fault : goal.returns-in_default-clause-fault
returns-in_default-clause-fault c bytes r same = (r, refl, rw same c.in_default.ensures.none)

pub returns-in-Some-outside_cost-clause-fault : goal.returns-in-Some-outside_cost-clause-fault
returns-in-Some-outside_cost-clause-fault c bytes r same =
    let found = c.in-Some.ensures.found in
    (r, rw same (names-contained c.args.table.now c.args.row.now c.in-Some.job (record { is_job = found.0; ids_are = sym found.1 })), rw same c.in-Some-outside_cost.ensures)
