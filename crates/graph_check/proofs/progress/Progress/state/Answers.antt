use Rattle.graph_check.specs.declared.due.Due.TheVariants as due
use Rattle.cert_text.specs.declared.line.CertLine.TheVariants as line
use Rattle.graph_check.proofs.LineOutcomes.{after-state, comes-err, comes-whole}
use Rattle.graph_check.proofs.progress.Progress.state.Goals as goal

pub returns-in-Ok-clause-comes : goal.returns-in-Ok-clause-comes
returns-in-Ok-clause-comes c =
    let a = c.args in
    let old = a.self.now in
    comes-whole old due.State (line.State a.parent a.job a.pairs.now a.ends.now a.last.now) c.requires.due c.add_state.result c.add_state.new.self _ c.in-Ok.ensures.passes c.add_state.ensures.added
    c.add_state.ensures.memory (after-state old.table old.progress a.parent a.job a.pairs.now a.ends.now a.last.now c.in-Ok.state.state.state c.in-Ok.ensures.state c.in-Ok.ensures.parent)

pub returns-in-Err-clause-comes : goal.returns-in-Err-clause-comes
returns-in-Err-clause-comes c =
    let a = c.args in
    comes-err a.self.now due.State (line.State a.parent a.job a.pairs.now a.ends.now a.last.now) c.requires.due c.in-Err.broken _ c.in-Err.ensures.clause
