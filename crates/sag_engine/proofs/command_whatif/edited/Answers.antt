use Rattle.std.proofs.lemmas.Result.{err_from_is_err_and}
use Rattle.sag_engine.proofs.WhatIfLemmas.{untaken_at_first}
use Rattle.sag_engine.proofs.command_whatif.edited.Goals as goal

pub returns-in_err-new-clause-untaken : goal.returns-in_err-new-clause-untaken
returns-in_err-new-clause-untaken c =
    let p = err_from_is_err_and c.from_residual.result c.from_residual.ensures.1 in
    rw (p.1, p.2) (untaken_at_first c.args.table c.args.edits.now c.args.cores c.args.budget c.in_err-new.field-0.0 c.in_err-new.ensures.untaken)
