use Rattle.std.proofs.Common.{refl}
use Rattle.std.proofs.lemmas.Result.{err_from_is_err_and}
use Rattle.cert_check.specs.Checks.{end_told}
use Rattle.sag_engine.specs.Work.Work.{Reports}
use Rattle.sag_engine.proofs.PlanLemmas.{follows_then, follows_halt, follows_pure}
use Rattle.sag_engine.proofs.CertificateLemmas.{accepted_each}
use Rattle.sag_engine.proofs.PrintLemmas.{runs_then, runs_halt}
use Rattle.sag_engine.proofs.command_report.run_report.Goals as goal

pub returns-in_err-table : goal.returns-in_err-table
returns-in_err-table g c =
    let p = err_from_is_err_and c.from_residual.result c.from_residual.ensures.1 in
    rw (p.1, p.2) (runs_halt (λ w. w) _ (follows_halt _ _ _ _ c.in_err-table.ensures))

pub returns-in_err-end : goal.returns-in_err-end
returns-in_err-end g c =
    let p = err_from_is_err_and c.from_residual-in_err-end.result c.from_residual-in_err-end.ensures.1 in
    rw (p.1, p.2) (runs_halt (λ w. w) _ (follows_then _ _ _ _ c.in_ok-table.ensures (follows_halt _ _ _ _ c.in_err-end.ensures)))

pub print_report-requires : goal.print_report-requires
print_report-requires g c = accepted_each _ _ _ _ _ c.in_ok-end.ensures.end

pub returns : goal.returns
returns g c = runs_then _ (Reports c.args.tasks c.in_ok-table.table (end_told c.in_ok-end.end))
    (follows_then _ _ _ _ c.in_ok-table.ensures (follows_then _ _ _ _ c.in_ok-end.ensures (follows_pure _ _ _ _ refl)))
    refl
    c.print_report.ensures
