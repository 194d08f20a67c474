use Rattle.cert_check.proofs.OneEnds as law
use Rattle.cert_check.proofs.laws.no_fault_of_readable.Goals as goal

pub returns : goal.returns
returns c = law.no_fault_of_readable
