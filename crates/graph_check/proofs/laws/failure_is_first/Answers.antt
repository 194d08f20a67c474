use Rattle.graph_check.proofs.Steps as law
use Rattle.graph_check.proofs.laws.failure_is_first.Goals as goal

pub returns : goal.returns
returns c = law.failure_is_first
