use Rattle.graph_check.proofs.OldCertificates as law
use Rattle.graph_check.proofs.laws.old_is_valid.Goals as goal

pub returns : goal.returns
returns c = law.old_is_valid
