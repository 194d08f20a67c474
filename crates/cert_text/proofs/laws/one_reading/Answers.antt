use Rattle.cert_text.proofs.ReadableRuns.{one_reading}
use Rattle.cert_text.proofs.laws.one_reading.Goals as goal

pub returns : goal.returns
returns c = one_reading
