use Rattle.std.proofs.Common.{ap}
use Rattle.graph_check.specs.declared.due.Due.TheVariants as due
use Rattle.cert_text.specs.declared.line.CertLine.TheVariants as line
use Rattle.graph_check.specs.Shown.{held_progress}
use Rattle.graph_check.specs.Turns.{level_states}
use Rattle.graph_check.proofs.LineOutcomes.{after-root, comes-err, comes-whole}
use Rattle.graph_check.proofs.progress.Progress.root.Goals as goal

pub returns-in-Ok-clause-comes : goal.returns-in-Ok-clause-comes
returns-in-Ok-clause-comes c =
    let a = c.args in
    comes-whole a.self.now due.Root (line.Root a.pairs.now) c.requires.due c.add_state.result c.add_state.new.self _ c.in-Ok.ensures.passes c.add_state.ensures.added c.add_state.ensures.memory
    (after-root (held_progress c.self.inside) a.self.now _ c.in-Ok.state.state.state a.pairs.now c.self.view_is (ap (λ hs. level_states hs) c.clear.ensures.items) c.in-Ok.ensures.state)

pub returns-in-Err-clause-comes : goal.returns-in-Err-clause-comes
returns-in-Err-clause-comes c = comes-err c.args.self.now due.Root (line.Root c.args.pairs.now) c.requires.due c.in-Err.broken _ c.in-Err.ensures.clause
