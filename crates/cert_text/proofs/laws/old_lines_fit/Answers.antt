use Rattle.cert_text.proofs.OldLines.{old_lines_fit}
use Rattle.cert_text.proofs.laws.old_lines_fit.Goals as goal

pub returns : goal.returns
returns c = old_lines_fit
