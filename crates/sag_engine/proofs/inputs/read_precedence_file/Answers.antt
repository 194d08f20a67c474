use Rattle.std.proofs.Common.{refl}
use Rattle.std.proofs.lemmas.Result.{err_from_is_err_and}
use Rattle.sag_engine.specs.Inputs.{precedence_plan}
use Rattle.sag_engine.proofs.PlanLemmas.{follows_then, follows_halt, follows_judged, follows_pure}
use Rattle.sag_engine.proofs.inputs.read_precedence_file.Goals as goal

pub returns-in_default : goal.returns-in_default
unfolding precedence_plan
returns-in_default g c = rw c.in_default.is (follows_pure _ _ _ _ refl)

pub returns-in_err-bytes : goal.returns-in_err-bytes
unfolding precedence_plan
returns-in_err-bytes g c =
    let p = err_from_is_err_and c.from_residual.result c.from_residual.ensures.1 in
    rw (p.1, p.2, c.in-Some.is) (follows_halt _ _ _ _ c.in_err-bytes.ensures)

pub returns : goal.returns
unfolding precedence_plan
returns g c = rw c.in-Some.is (follows_then _ _ _ _ c.in_ok-bytes.ensures (follows_judged _ _ (rw c.deref.ensures.value at c.with_precedence.ensures)))
