use Rattle.cert_text.proofs.OneHeld.{one_held}
use Rattle.cert_text.proofs.laws.one_held.Goals as goal

pub returns : goal.returns
returns c = one_held
