use Rattle.std.proofs.Common.{◌≡◌, ◌<◌, [], true, length, take, get_or, sym, arith, rules}
use Rattle.std.proofs.lemmas.List.{take_all, take_more}
use Rattle.std.proofs.lemmas.Result.{err_from_is_err_and}
use Rattle.std.proofs.lemmas.Slice.Zip.{all_zipped_more}
use Rattle.std.specs.Result.{is_ok}
use Rattle.side_csv.specs.EditsText.{GivesEdit}
use Rattle.side_csv.proofs.EditLemmas.{one-edits, reached-edit}
use Rattle.side_csv.proofs.edits.edits_of_rows.Goals as goal

pub returns-in_err-edit-clause-fault : goal.returns-in_err-edit-clause-fault
returns-in_err-edit-clause-fault c =
    let p = err_from_is_err_and c.from_residual.result c.from_residual.ensures.1 in
    let rows = c.args.rows.now in
    let i = c.loop-i.i in
    let below : i < length rows = omega (arith, c.loop-i-test.true, c.len-i-end.ensures) in
    let row_is : c.row.result.now ≡ get_or rows i [] = c.row.ensures in
    rw (p.1, p.2) (λ bytes reads. c.in_err-edit.ensures.fault bytes (reached-edit c.args.table.now bytes rows i c.loop-i.edits.items below reads c.loop-i.invariant.given) (sym row_is))

pub loop-i-preserved : goal.loop-i-preserved
loop-i-preserved c =
    let rows = c.args.rows.now in
    let i = c.loop-i.i in
    let below : i < length rows = omega (arith, c.loop-i-test.true, c.len-i-end.ensures) in
    let row_is : c.row.result.now ≡ get_or rows i [] = c.row.ensures in
    let good : is_ok c.push.result ≡ true = search rules in
    let items = rw good at c.push.ensures.items in
    let gives = rw row_is at c.in_ok-edit.ensures.gives in
    rw (take_more rows i [] below, items) (record {
      given = all_zipped_more (GivesEdit c.args.table.now) (take i rows) c.loop-i.edits.items (get_or rows i []) c.in_ok-edit.edit c.loop-i.invariant.given gives;
      table = λ more. c.in_ok-edit.ensures.table;
    })

pub returns-clause-only : goal.returns-clause-only
returns-clause-only c t other =
    let rows = c.args.rows.now in
    let all : take c.loop-i.i rows ≡ rows = take_all c.loop-i.i rows (omega arith) in
    one-edits c.args.table.now rows (λ more. c.loop-i.invariant.table (omega arith)) c.loop-i.edits.items t (rw all at c.loop-i.invariant.given) other
