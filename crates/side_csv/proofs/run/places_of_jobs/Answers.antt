use Rattle.std.proofs.Common.{◌≡◌, ◌∙◌, ◌<◌, ◌+◌, ◌∷◌, [], None, Some, true, length, get_or, ap, arith, rules, length-append}
use Rattle.std.specs.Result.{is_ok}
use Rattle.run_meaning.specs.Ready.{no_place}
use Rattle.side_csv.specs.RowPerJob.{NamesJob}
use Rattle.side_csv.specs.RunText.{place_in}
use Rattle.side_csv.proofs.RowLemmas.{place-none, place-some}
use Rattle.side_csv.proofs.ItemLemmas.{Given-push, given-contained}
use Rattle.side_csv.proofs.RunLemmas.{core-within}
use Rattle.side_csv.proofs.run.places_of_jobs.Goals as goal

pub returns-in_default-places-clause-fault : goal.returns-in_default-places-clause-fault
returns-in_default-places-clause-fault c bytes reads =
    let j = c.loop-j.j in
    let below : j < length c.args.table.now.jobs = omega (arith, c.loop-j-test.true, c.len-j-end.ensures.count) in
    let none : get_or c.args.places.now c.from.result None ≡ None = c.in_default-places.is in
    record {
      rows = c.args.rows.now;
      rows_are = reads;
      kept = c.requires.kept;
      is_job = below;
      missing = place-none c.args.table.now c.args.rows.now c.args.places.now j c.requires.places below (rw c.from.ensures at none);
      first = given-contained place_in no_place c.args.table.now c.args.rows.now c.loop-j.starts.items j c.loop-j.invariant.given;
    }

pub place_of-requires-clause-core : goal.place_of-requires-clause-core
place_of-requires-clause-core c =
    let table = c.args.table.now in
    let rows = c.args.rows.now in
    let j = c.loop-j.j in
    let place = c.in-Some.place in
    let below : j < length table.jobs = omega (arith, c.loop-j-test.true, c.len-j-end.ensures.count) in
    let some : get_or c.args.places.now c.from.result None ≡ Some place = c.in-Some.is in
    let at = place-some table rows c.args.places.now j place c.requires.places below (rw c.from.ensures at some) in
    rw c.row.ensures (core-within table c.args.scenario.now rows place c.requires.kept at.0)

pub loop-j-preserved : goal.loop-j-preserved
loop-j-preserved c =
    let table = c.args.table.now in
    let rows = c.args.rows.now in
    let j = c.loop-j.j in
    let place = c.in-Some.place in
    let below : j < length table.jobs = omega (arith, c.loop-j-test.true, c.len-j-end.ensures.count) in
    let some : get_or c.args.places.now c.from.result None ≡ Some place = c.in-Some.is in
    let at = place-some table rows c.args.places.now j place c.requires.places below (rw c.from.ensures at some) in
    let good : is_ok c.push.result ≡ true = search rules in
    let items = rw (good, c.place_of.ensures, c.row.ensures) at c.push.ensures.items in
    let names : NamesJob table (get_or rows place []) j = record { is_job = below; ids_are = at.1 } in
    let given = Given-push place_in no_place table rows c.loop-j.starts.items j place c.loop-j.invariant.count c.loop-j.invariant.given at.0 names in
    rw items (record {
      count = length-append c.loop-j.starts.items (place_in (get_or rows place []) ∷ []) ∙ ap (λ n. n + 1) c.loop-j.invariant.count;
      given = given;
    })
