use Rattle.std.proofs.Common.{refl}
use Rattle.std.proofs.lemmas.Result.{err_from_is_err_and}
use Rattle.sag_engine.specs.Work.Work.{AuditsRun}
use Rattle.sag_engine.proofs.AuditLemmas.{accepted_one_each, accepted_starts, answer_is_job}
use Rattle.sag_engine.proofs.InputLemmas.{accepted_fits}
use Rattle.sag_engine.proofs.PlanLemmas.{follows_then, follows_halt, follows_pure}
use Rattle.sag_engine.proofs.PrintLemmas.{runs_then, runs_halt, runs_memory}
use Rattle.sag_engine.proofs.command_audit.run_audit.Goals as goal

pub returns-in_err-table : goal.returns-in_err-table
returns-in_err-table g c =
    let p = err_from_is_err_and c.from_residual.result c.from_residual.ensures.1 in
    rw (p.1, p.2) (runs_halt (λ w. w) _ (follows_halt _ _ _ _ c.in_err-table.ensures))

pub returns-in_err-scenario : goal.returns-in_err-scenario
returns-in_err-scenario g c =
    let p = err_from_is_err_and c.from_residual-in_err-scenario.result c.from_residual-in_err-scenario.ensures.1 in
    rw (p.1, p.2) (runs_halt (λ w. w) _ (follows_then _ _ _ _ c.in_ok-table.ensures (follows_halt _ _ _ _ c.in_err-scenario.ensures)))

pub read_run_file-requires : goal.read_run_file-requires
read_run_file-requires g c = accepted_fits _ _ _ _ c.in_ok-scenario.ensures.end

pub returns-in_err-schedule : goal.returns-in_err-schedule
returns-in_err-schedule g c =
    let p = err_from_is_err_and c.from_residual-in_err-schedule.result c.from_residual-in_err-schedule.ensures.1 in
    rw (p.1, p.2) (runs_halt (λ w. w) _ (follows_then _ _ _ _ c.in_ok-table.ensures
    (follows_then _ _ _ _ c.in_ok-scenario.ensures (follows_halt _ _ _ _ c.in_err-schedule.ensures))))

pub audit-requires : goal.audit-requires
audit-requires g c = record {
  some_core = c.requires.some_core;
  few_cores = c.requires.few_cores;
  fits = accepted_fits _ _ _ _ c.in_ok-scenario.ensures.end;
  places = accepted_one_each _ _ _ _ _ c.in_ok-schedule.ensures.end;
  starts = accepted_starts _ _ _ _ _ c.in_ok-schedule.ensures.end;
}

pub print_audit-requires : goal.print_audit-requires
print_audit-requires g c = answer_is_job _ _ _ _ _ c.in-Ok.ensures

pub returns-in-Ok : goal.returns-in-Ok
returns-in-Ok g c = runs_then _ (AuditsRun c.in_ok-table.table c.args.cores c.in_ok-scenario.scenario c.in_ok-schedule.schedule)
    (follows_then _ _ _ _ c.in_ok-table.ensures (follows_then _ _ _ _ c.in_ok-scenario.ensures (follows_then _ _ _ _ c.in_ok-schedule.ensures (follows_pure _ _ _ _ refl))))
    (c.in-Ok.answer, c.in-Ok.ensures, refl)
    c.print_audit.ensures

pub returns : goal.returns
returns g c = runs_memory _ (AuditsRun c.in_ok-table.table c.args.cores c.in_ok-scenario.scenario c.in_ok-schedule.schedule)
    (follows_then _ _ _ _ c.in_ok-table.ensures (follows_then _ _ _ _ c.in_ok-scenario.ensures (follows_then _ _ _ _ c.in_ok-schedule.ensures (follows_pure _ _ _ _ refl))))
