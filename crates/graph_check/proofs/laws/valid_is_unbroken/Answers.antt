use Rattle.graph_check.proofs.Unbroken as law
use Rattle.graph_check.proofs.laws.valid_is_unbroken.Goals as goal

pub returns : goal.returns
returns c = law.valid_is_unbroken
