use Rattle.cert_text.proofs.ReadableRuns.{no_proper_prefix}
use Rattle.cert_text.proofs.laws.no_proper_prefix.Goals as goal

pub returns : goal.returns
returns c = no_proper_prefix
