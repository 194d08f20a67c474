use Rattle.cert_convert.proofs.ConvertedLemmas.{one_conversion}
use Rattle.cert_convert.proofs.laws.one_conversion.Goals as goal

pub returns : goal.returns
returns c = one_conversion c.one_reading.ensures
