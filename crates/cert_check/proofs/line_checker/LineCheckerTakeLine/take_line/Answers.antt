use Rattle.std.proofs.Common.{subst, sym}
use Rattle.graph_check.specs.Kept.{HeldChecker}
use Rattle.cert_check.specs.Checks.{TakesLines}
use Rattle.cert_check.proofs.LineTakings.{takes_line}
use Rattle.cert_check.proofs.line_checker.LineCheckerTakeLine.take_line.Goals as goal
use Rattle.cert_check.proofs.line_checker.LineCheckerTakeLine.take_line.Goals.{in-Ok, in-Err-No, in-Err-Memory}

pub returns-clause-takes : goal.returns-clause-takes
returns-clause-takes c =
    let old = c.self.inside.checker in
    elim c.match-step.branch [
      | in-Ok w ↦ rw w.result-is (λ start lines t.
          takes_line start old c.step.new.self lines c.args.line c.step.result (subst (λ (h : HeldChecker). TakesLines start lines h) (sym c.self.view_is) t)
          c.step.ensures.table c.step.ensures.cores c.step.ensures.kept c.step.ensures.answer (λ e. cc (w.in-Ok.is, e)))
      | in-Err-No w ↦ rw w.result-is (λ start lines t.
          takes_line start old c.step.new.self lines c.args.line c.step.result (subst (λ (h : HeldChecker). TakesLines start lines h) (sym c.self.view_is) t)
          c.step.ensures.table c.step.ensures.cores c.step.ensures.kept c.step.ensures.answer (λ e. cc (w.in-Err-No.is, w.in-Err-No.field-0-is, e)))
      | in-Err-Memory w ↦ rw w.result-is tt
    ]
