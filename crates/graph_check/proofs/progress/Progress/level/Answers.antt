use Rattle.std.proofs.Common.{ap, sym, ◌∙◌, arith}
use Rattle.graph_check.specs.declared.due.Due.TheVariants as due
use Rattle.cert_text.specs.declared.line.CertLine.TheVariants as line
use Rattle.graph_check.specs.Shown.{held_progress}
use Rattle.graph_check.specs.Comings.{HeldProgress}
use Rattle.graph_check.specs.Kept.{after_line}
use Rattle.graph_check.proofs.LineOutcomes.{after-first, after-level, comes-broken, comes-taken, comes-whole}
use Rattle.graph_check.proofs.progress.Progress.level.Goals as goal

pub returns-in-Some-clause-comes : goal.returns-in-Some-clause-comes
returns-in-Some-clause-comes c = comes-broken c.args.self.now due.Level (line.Level c.args.number c.args.count) c.requires.due c.in-Some.clause _ c.in-Some.ensures

pub returns-then-number-eq0-clause-comes : goal.returns-then-number-eq0-clause-comes
returns-then-number-eq0-clause-comes c =
    let h = held_progress c.self.inside in
    comes-taken c.args.self.now due.Level (line.Level c.args.number c.args.count) c.requires.due h _ c.self.view_is c.in_default.ensures
    (after-first h.table h.progress c.args.number c.args.count (omega arith))

pub returns-clause-comes : goal.returns-clause-comes
returns-clause-comes c =
    let h = held_progress c.self.inside in
    let l = line.Level c.args.number c.args.count in
    comes-whole c.args.self.now due.Level l c.requires.due c.begin_level.result c.begin_level.new.self _ (sym c.in_default.ensures) c.begin_level.ensures.begun c.begin_level.ensures.memory
    (after-level h.table h.progress c.args.number c.args.count (λ e. omega arith) ∙ ap (λ (k : HeldProgress). after_line k.table k.progress l) c.self.view_is)
