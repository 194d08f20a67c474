use Rattle.std.proofs.lemmas.Result.{err_from_is_err_and}
use Rattle.sag_engine.specs.WhatIf.{edits_plan}
use Rattle.sag_engine.proofs.PlanLemmas.{follows_then, follows_halt, follows_judged}
use Rattle.sag_engine.proofs.command_whatif.read_edits_file.Goals as goal

pub returns-in_err-bytes : goal.returns-in_err-bytes
unfolding edits_plan
returns-in_err-bytes g c =
    let p = err_from_is_err_and c.from_residual.result c.from_residual.ensures.1 in
    rw (p.1, p.2) (follows_halt _ _ _ _ c.in_err-bytes.ensures)

pub returns : goal.returns
unfolding edits_plan
returns g c = follows_then _ _ _ _ c.in_ok-bytes.ensures (follows_judged _ _ (rw c.deref.ensures.value at c.edits_of.ensures))
