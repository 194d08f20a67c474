use Rattle.graph_check.proofs.Whole as law
use Rattle.graph_check.proofs.laws.valid_is_kept.Goals as goal

pub returns : goal.returns
returns c = law.valid_is_kept
