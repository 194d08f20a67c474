use Rattle.graph_check.proofs.Whole as law
use Rattle.graph_check.proofs.laws.kept_are_spans.Goals as goal

pub returns : goal.returns
returns c = law.kept_are_spans
