use Rattle.cert_check.proofs.OneEnds as law
use Rattle.cert_check.proofs.laws.one_end.Goals as goal

pub returns : goal.returns
returns c = law.one_end c.one_reading.ensures c.valid_is_kept.ensures
