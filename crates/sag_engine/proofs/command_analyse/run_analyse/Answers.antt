use Rattle.std.proofs.Common.{refl}
use Rattle.std.proofs.lemmas.Result.{err_from_is_err_and}
use Rattle.sag_engine.specs.Work.Work.{Analyses}
use Rattle.sag_engine.proofs.PlanLemmas.{follows_halt, follows_pure, follows_then}
use Rattle.sag_engine.proofs.PrintLemmas.{runs_halt, runs_then}
use Rattle.sag_engine.proofs.command_analyse.run_analyse.Goals as goal

pub returns-in_err-table : goal.returns-in_err-table
returns-in_err-table g c =
    let p = err_from_is_err_and c.from_residual.result c.from_residual.ensures.1 in
    rw (p.1, p.2) (runs_halt (λ w. w) _ (follows_halt _ _ _ _ c.in_err-table.ensures))

pub returns : goal.returns
returns g c = runs_then _ (Analyses c.in_ok-table.table c.args.cores c.args.budget)
    (follows_then _ _ _ _ c.in_ok-table.ensures (follows_pure _ _ _ _ refl))
    refl
    c.print_graph.ensures
