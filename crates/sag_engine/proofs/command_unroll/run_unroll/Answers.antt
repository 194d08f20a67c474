use Rattle.std.proofs.Common.{refl}
use Rattle.std.proofs.lemmas.Result.{err_from_is_err_and}
use Rattle.sag_engine.specs.Work.Work.{Unrolls}
use Rattle.sag_engine.proofs.PlanLemmas.{follows_then, follows_halt, follows_pure}
use Rattle.sag_engine.proofs.PrintLemmas.{runs_then, runs_halt, runs_memory}
use Rattle.sag_engine.proofs.command_unroll.run_unroll.Goals as goal

pub returns-in_err-table : goal.returns-in_err-table
returns-in_err-table g c =
    let p = err_from_is_err_and c.from_residual.result c.from_residual.ensures.1 in
    rw (p.1, p.2) (runs_halt (λ w. w) _ (follows_halt _ _ _ _ c.in_err-table.ensures))

pub returns-in-Ok : goal.returns-in-Ok
returns-in-Ok g c = runs_then _ (Unrolls c.in_ok-table.table)
    (follows_then _ _ _ _ c.in_ok-table.ensures (follows_pure _ _ _ _ refl))
    (refl, rw c.in-Ok.ensures.text at c.in-Ok.ensures.reads)
    (rw (c.deref.ensures.value, c.in-Ok.ensures.text) at c.print.ensures)

pub returns : goal.returns
returns g c = runs_memory _ (Unrolls c.in_ok-table.table)
    (follows_then _ _ _ _ c.in_ok-table.ensures (follows_pure _ _ _ _ refl))
