use Rattle.std.proofs.Common.{◌≡◌, ◌∙◌, ◌<◌, ◌+◌, ◌∷◌, [], None, Some, true, length, get_or, ap, arith, rules, length-append}
use Rattle.std.specs.Result.{is_ok}
use Rattle.side_csv.specs.RowPerJob.{NamesJob}
use Rattle.side_csv.specs.ScenarioText.{cost_in, release_in, values_in}
use Rattle.side_csv.proofs.RowLemmas.{place-none, place-some}
use Rattle.side_csv.proofs.ItemLemmas.{Given-push, given-contained}
use Rattle.side_csv.proofs.scenario.values_of_jobs.Goals as goal

pub returns-in_default-places-clause-fault : goal.returns-in_default-places-clause-fault
returns-in_default-places-clause-fault c bytes reads kept =
    let j = c.loop-j.j in
    let below : j < length c.args.table.now.jobs = omega (arith, c.loop-j-test.true, c.len-j-end.ensures.count) in
    let none : get_or c.args.places.now c.from.result None ≡ None = c.in_default-places.is in
    record {
      rows = c.args.rows.now;
      rows_are = reads;
      kept = kept;
      is_job = below;
      missing = place-none c.args.table.now c.args.rows.now c.args.places.now j c.requires.places below (rw c.from.ensures at none);
      first = given-contained values_in (0, 0) c.args.table.now c.args.rows.now c.loop-j.values.items j c.loop-j.invariant.given;
    }

pub loop-j-preserved : goal.loop-j-preserved
loop-j-preserved c =
    let table = c.args.table.now in
    let rows = c.args.rows.now in
    let j = c.loop-j.j in
    let place = c.in-Some.place in
    let below : j < length table.jobs = omega (arith, c.loop-j-test.true, c.len-j-end.ensures.count) in
    let some : get_or c.args.places.now c.from.result None ≡ Some place = c.in-Some.is in
    let at = place-some table rows c.args.places.now j place c.requires.places below (rw c.from.ensures at some) in
    let row_is : c.row-row.result.now ≡ get_or rows place [] = c.row-row.ensures in
    let good : is_ok c.push.result ≡ true = search rules in
    let items = rw (good, row_is) at c.push.ensures.items in
    let names : NamesJob table (get_or rows place []) j = record { is_job = below; ids_are = at.1 } in
    let given = Given-push values_in (0, 0) table rows c.loop-j.values.items j place c.loop-j.invariant.count c.loop-j.invariant.given at.0 names in
    rw items (record {
      count = length-append c.loop-j.values.items ((release_in (get_or rows place []), cost_in (get_or rows place [])) ∷ []) ∙ ap (λ n. n + 1) c.loop-j.invariant.count;
      given = given;
    })
