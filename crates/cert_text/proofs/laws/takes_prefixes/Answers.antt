use Rattle.cert_text.proofs.Prefixes.{takes_prefixes}
use Rattle.cert_text.proofs.laws.takes_prefixes.Goals as goal

pub returns : goal.returns
returns c = takes_prefixes
