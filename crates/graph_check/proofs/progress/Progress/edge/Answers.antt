use Rattle.std.proofs.Common.{ap, sym, ◌∙◌, subst}
use Rattle.std.specs.Prelude.{IsSome}
use Rattle.graph_check.specs.declared.due.Due.TheVariants as due
use Rattle.cert_text.specs.declared.line.CertLine.TheVariants as line
use Rattle.graph_check.specs.Checks.{edge_checks, first_broken}
use Rattle.graph_check.specs.Comings.{HeldProgress, edge_offer}
use Rattle.graph_check.proofs.LineChecks.{edge-offer-is}
use Rattle.graph_check.proofs.LineOutcomes.{after-edge, comes-broken, comes-whole}
use Rattle.graph_check.proofs.progress.Progress.edge.Goals as goal

pub returns-in-Some-clause-comes : goal.returns-in-Some-clause-comes
returns-in-Some-clause-comes c =
    let a = c.args in
    comes-broken a.self.now due.Edge (line.Edge a.from a.job a.est a.lst a.to) c.requires.due c.in-Some.clause _
    (c.in-Some.ensures.clause ∙ ap (λ o. first_broken (edge_checks a.self.now.progress.states o a.from a.job a.est a.lst a.to)) (edge-offer-is a.self.now))

pub pass_edge-requires-clause-left : goal.pass_edge-requires-clause-left
unfolding edge_offer
pass_edge-requires-clause-left c =
    subst (λ (x : HeldProgress). IsSome (edge_offer x)) (sym c.widen_hull.ensures) (subst (λ (x : HeldProgress). IsSome (edge_offer x)) (sym c.edge_clause.ensures.same) c.in_default.ensures.left)

pub returns-clause-comes : goal.returns-clause-comes
returns-clause-comes c =
    let a = c.args in
    let old = a.self.now in
    let passes = c.in_default.ensures.clause ∙ ap (λ o. first_broken (edge_checks old.progress.states o a.from a.job a.est a.lst a.to)) (edge-offer-is old) in
    comes-whole old due.Edge (line.Edge a.from a.job a.est a.lst a.to) c.requires.due c.pass_edge.result c.pass_edge.new.self _ (sym passes) c.pass_edge.ensures.passed c.pass_edge.ensures.memory
    (after-edge old c.edge_clause.new.self c.widen_hull.new.self a.from a.job a.est a.lst a.to c.edge_clause.ensures.same c.widen_hull.ensures)
