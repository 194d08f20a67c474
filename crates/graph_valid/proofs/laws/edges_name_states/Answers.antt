use Rattle.graph_valid.proofs.EdgesBetween as law
use Rattle.graph_valid.proofs.laws.edges_name_states.Goals as goal

pub returns : goal.returns
returns c = law.edges_name_states
