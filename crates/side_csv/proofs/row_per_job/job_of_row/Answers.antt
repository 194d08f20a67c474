use Rattle.std.proofs.Common.{◌≡◌, ◌∙◌, ◌<◌, None, Some, get_or, length, refl, sym, arith}
use Rattle.side_csv.proofs.RowLemmas.{place-some}
use Rattle.side_csv.proofs.row_per_job.job_of_row.Goals as goal

pub returns-in_default-clause-fault : goal.returns-in_default-clause-fault
returns-in_default-clause-fault c width outside bytes r same places = (r, refl, rw same c.in_default.ensures.none)

pub overflow_add-result : goal.overflow_add-result
overflow_add-result c =
    let found = c.in-Some.ensures.found in
    let is_job : c.from.result ≡ c.in-Some.no = c.from.ensures ∙ c.no.view_is in
    let below : c.from.result < length c.args.places.now = omega (arith, is_job, found.0, c.requires.one_each) in
    omega (arith, c.requires.earlier c.from.result None below c.in-Some-places.earlier c.in-Some-places.is, c.ranges.place.fits)

pub returns-in-Some-places-clause-fault : goal.returns-in-Some-places-clause-fault
returns-in-Some-places-clause-fault c width outside bytes r same places =
    let found = c.in-Some.ensures.found in
    let is_job : c.from.result ≡ c.in-Some.no = c.from.ensures ∙ c.no.view_is in
    let some : get_or c.args.places.now c.from.result None ≡ Some c.in-Some-places.earlier = c.in-Some-places.is in
    let at = place-some c.args.table.now r.before c.args.places.now c.in-Some.no c.in-Some-places.earlier places found.0 (rw is_job at some) in
    (r, c.in-Some.no, record { is_job = found.0; ids_are = rw same (sym found.1) }, c.in-Some-places.earlier, at.0, refl, record { is_job = found.0; ids_are = at.1 })
