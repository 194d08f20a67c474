use Rattle.std.proofs.Common.{refl}
use Rattle.std.proofs.lemmas.Result.{err_from_is_err_and}
use Rattle.sag_engine.specs.Work.Work.{Converts}
use Rattle.sag_engine.proofs.PlanLemmas.{follows_then, follows_halt, follows_pure}
use Rattle.sag_engine.proofs.PrintLemmas.{runs_then, runs_halt}
use Rattle.sag_engine.proofs.command_convert.run_convert.Goals as goal

pub returns-in_err-text : goal.returns-in_err-text
returns-in_err-text g c =
    let p = err_from_is_err_and c.from_residual.result c.from_residual.ensures.1 in
    rw (p.1, p.2) (runs_halt (λ w. w) _ (follows_halt _ _ _ _ c.in_err-text.ensures))

pub returns : goal.returns
returns g c = runs_then _ (Converts c.in_ok-text.text.items)
    (follows_then _ _ _ _ c.in_ok-text.ensures (follows_pure _ _ _ _ refl))
    refl
    (rw c.deref.ensures.value at c.print.ensures)
