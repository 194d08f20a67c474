use Rattle.std.proofs.Common.{◌≡◌, true, false, arith, eqb, sym, ◌∙◌}
use Rattle.std.proofs.lemmas.Bool.{eqb-false, eqb-true}
use Rattle.job_model.specs.Cycles.{IsFirstClosing}
use Rattle.job_model.proofs.EdgeLemmas.{cycle-edge, read_twice, self-edge}
use Rattle.job_model.proofs.edge_rows.check_rows.Goals as goal

pub returns-then-eq-clause-fault : goal.returns-then-eq-clause-fault
returns-then-eq-clause-fault c =
    let rows = c.args.rows.now in
    let place = c.in-Some.place in
    let first : IsFirstClosing rows place = rw c.in-Some.is at c.in-Ok.ensures in
    let here = c.index-rows-place.result in
    let read = c.index-rows-place.is in
    let test : eqb here.0 here.1 ≡ true = read_twice rows place here c.index-rows-place-2.result first.is_row read ∙ sym c.eq.ensures ∙ c.if-eq.true in
    self-edge rows (omega arith) place first here read (eqb-true here.0 here.1 test)

pub returns-clause-fault : goal.returns-clause-fault
returns-clause-fault c =
    let rows = c.args.rows.now in
    let place = c.in-Some.place in
    let first : IsFirstClosing rows place = rw c.in-Some.is at c.in-Ok.ensures in
    let here = c.index-rows-place.result in
    let read = c.index-rows-place.is in
    let test : eqb here.0 here.1 ≡ false = read_twice rows place here c.index-rows-place-2.result first.is_row read ∙ sym c.eq.ensures ∙ c.if-eq.false in
    cycle-edge rows (omega arith) place first here read (eqb-false here.0 here.1 test)
