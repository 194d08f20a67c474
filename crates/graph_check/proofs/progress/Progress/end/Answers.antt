use Rattle.std.proofs.Common.{refl}
use Rattle.graph_check.specs.declared.due.Due.TheVariants as due
use Rattle.cert_text.specs.declared.line.CertLine.TheVariants as line
use Rattle.graph_check.specs.Shown.{held_progress}
use Rattle.graph_check.proofs.LineOutcomes.{comes-taken}
use Rattle.graph_check.proofs.progress.Progress.end.Goals as goal

pub returns-clause-comes : goal.returns-clause-comes
returns-clause-comes c = comes-taken c.args.self.now due.End line.End c.requires.due (held_progress c.self.inside) _ c.self.view_is refl refl
