use Rattle.std.proofs.Common.{◌≡◌, ◌∙◌, ap, subst, sym}
use Rattle.std.specs.Prelude.{Contains, map}
use Rattle.std.proofs.lemmas.Result.{err_from_is_err_and}
use Rattle.job_model.specs.Table.{id_of, job_at}
use Rattle.side_csv.specs.RowPerJob.{ids_of}
use Rattle.side_csv.specs.ScenarioText.{outside_in_scenario}
use Rattle.side_csv.proofs.RowLemmas.{place-none}
use Rattle.side_csv.proofs.scenario.good_job_of_row.Goals as goal

pub returns-in_err-no-clause-fault : goal.returns-in_err-no-clause-fault
returns-in_err-no-clause-fault c =
    let p = err_from_is_err_and c.from_residual.result c.from_residual.ensures.1 in
    rw (p.1, p.2) (λ bytes r same places. c.in_err-no.ensures.fault 4 (outside_in_scenario c.args.table.now) bytes r same places)

pub returns-in-Some-clause-fault : goal.returns-in-Some-clause-fault
returns-in-Some-clause-fault c bytes r same places =
    let no = c.in_ok-no.no in
    let names = c.in_ok-no.ensures.names in
    let ids : ids_of r.here ≡ id_of (job_at c.args.table.now no) = ap ids_of same ∙ names.ids_are in
    let free = place-none c.args.table.now r.before c.args.places.now no places names.is_job c.in_ok-no.ensures.free in (
      r,
      no,
      record { is_job = names.is_job; ids_are = ids },
      λ there. free (subst (λ y. Contains (map ids_of r.before) y) ids there),
      rw (same, ← c.job-job.ensures.job) (sym c.in-Some.ensures),
    )
