use Rattle.cert_text.proofs.SpelledLines.{spelled_lines}
use Rattle.cert_text.proofs.laws.spelled_lines.Goals as goal

pub returns : goal.returns
returns c = spelled_lines
