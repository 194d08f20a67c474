use Rattle.std.proofs.Common.{inl, inr, refl}
use Rattle.side_csv.specs.PrecedenceText.{predecessor_in}
use Rattle.side_csv.proofs.PrecedenceLemmas.{known}
use Rattle.side_csv.proofs.precedence.edge_of_row.Goals as goal

pub returns-in_default-clause-fault : goal.returns-in_default-clause-fault
returns-in_default-clause-fault c bytes r same = (r, inl (refl, rw same c.in_default.ensures.none))

pub returns-in_default-find-clause-fault : goal.returns-in_default-find-clause-fault
returns-in_default-find-clause-fault c bytes r same =
    let found = c.in-Some.ensures.found in
    (r, inr (refl, rw same (known c.args.table.now c.in-Some.predecessor (predecessor_in c.args.row.now) (record { is_job = found.0; ids_are = found.1 })), rw same c.in_default-find.ensures.none))
