use Rattle.graph_rework.proofs.StayingEdges.{edges_stay}
use Rattle.graph_rework.proofs.laws.edges_stay.Goals as goal

pub returns : goal.returns
returns c = edges_stay
