use Rattle.std.proofs.Common.{◌≡◌, ◌∙◌, ◌<◌, Some, length, take, get_or, set, sym, subst, arith, ◌++◌, ◌∷◌, []}
use Rattle.std.proofs.lemmas.List.{length-take-le, take_more}
use Rattle.std.proofs.lemmas.Result.{err_from_is_err_and}
use Rattle.side_csv.specs.Places.{Places}
use Rattle.side_csv.proofs.RowLemmas.{KeepRules-push, Places-push, place-none}
use Rattle.side_csv.specs.RunText.{outside_in_run}
use Rattle.side_csv.proofs.OneRowFault.{reached}
use Rattle.side_csv.proofs.run.find_rows.Goals as goal

pub returns-in_err-no-clause-fault : goal.returns-in_err-no-clause-fault
returns-in_err-no-clause-fault c =
    let p = err_from_is_err_and c.from_residual.result c.from_residual.ensures.1 in
    let rows = c.args.rows.now in
    let i = c.loop-i.i in
    let below : i < length rows = omega (arith, c.loop-i-test.true, c.len-i-end.ensures) in
    let row_is : c.row.result.now ≡ get_or rows i [] = c.row.ensures in
    rw (p.1, p.2) (λ bytes reads. c.in_err-no.ensures.fault bytes (reached 5 (outside_in_run c.args.scenario.now) c.args.table.now bytes rows i below reads c.loop-i.invariant.kept) (sym row_is) (rw c.deref.ensures.value c.loop-i.invariant.places))

pub loop-i-preserved : goal.loop-i-preserved
loop-i-preserved c =
    let table = c.args.table.now in
    let rows = c.args.rows.now in
    let i = c.loop-i.i in
    let no = c.in_ok-no.no in
    let places = c.loop-i.places.items in
    let below : i < length rows = omega (arith, c.loop-i-test.true, c.len-i-end.ensures) in
    let row_is : c.row.result.now ≡ get_or rows i [] = c.row.ensures in
    let says = rw (row_is, c.deref.ensures.value) at c.in_ok-no.ensures in
    let before = take i rows in
    let row = get_or rows i [] in
    let count : length before ≡ i = length-take-le i rows (omega arith) in
    let is_no : c.from-in-loop-i.result ≡ no = c.from-in-loop-i.ensures ∙ c.no.view_is in
    let free = place-none table before places no c.loop-i.invariant.places says.names.is_job says.free in
    let more = take_more rows i [] below in
    rw (more, is_no) (record {
      places = subst (λ n. Places table (before ++ row ∷ []) (set places no (Some n))) count (Places-push table c.len.ensures.table before row places no c.loop-i.invariant.places says.names);
      kept = KeepRules-push (outside_in_run c.args.scenario.now) table before row no c.loop-i.invariant.kept says.names says.inside free;
    })
