use Rattle.std.proofs.Common.{ap}
use Rattle.graph_check.specs.Comings.{HeldProgress}
use Rattle.graph_check.proofs.LineOutcomes.{other-turn}
use Rattle.graph_check.proofs.progress.Progress.take.Goals as goal

pub returns-then-not-is_due-clause-comes : goal.returns-then-not-is_due-clause-comes
returns-then-not-is_due-clause-comes c =
    let a = c.args in
    other-turn a.self.now.table a.self.now.cores a.self.now.progress _ a.line.now c.kind_of-kind.result c.is_due.result c.turn_clause.result c.kind_of-kind.ensures c.is_due.ensures.1 c.if-not-is_due.true
    (ap (λ (h : HeldProgress). h.progress.due) c.self.view_is) c.turn_clause.ensures
