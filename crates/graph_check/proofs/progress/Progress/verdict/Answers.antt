use Rattle.std.proofs.Common.{refl}
use Rattle.graph_check.specs.declared.due.Due.TheVariants as due
use Rattle.cert_text.specs.declared.line.CertLine.TheVariants as line
use Rattle.graph_check.specs.Shown.{held_progress}
use Rattle.graph_check.proofs.LineOutcomes.{comes-broken, comes-taken}
use Rattle.graph_check.proofs.progress.Progress.verdict.Goals as goal

pub returns-in-Some-clause-comes : goal.returns-in-Some-clause-comes
returns-in-Some-clause-comes c = comes-broken c.args.self.now due.Verdict (line.Verdict c.args.mark) c.requires.due c.in-Some.clause _ c.in-Some.ensures

pub returns-clause-comes : goal.returns-clause-comes
returns-clause-comes c = comes-taken c.args.self.now due.Verdict (line.Verdict c.args.mark) c.requires.due (held_progress c.self.inside) _ c.self.view_is c.in_default.ensures refl
