use Rattle.graph_rework.proofs.LevelOffers.{links_are_edges}
use Rattle.graph_rework.proofs.laws.links_are_edges.Goals as goal

pub returns : goal.returns
returns c = links_are_edges
