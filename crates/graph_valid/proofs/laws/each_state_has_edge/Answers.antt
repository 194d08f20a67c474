use Rattle.graph_valid.proofs.EdgesBetween as law
use Rattle.graph_valid.proofs.laws.each_state_has_edge.Goals as goal

pub returns : goal.returns
returns c = law.each_state_has_edge
