use Rattle.graph_memory.proofs.OfferSteps as law
use Rattle.graph_memory.proofs.laws.edges_are_steps.Goals as goal

pub returns : goal.returns
returns c = law.edges_are_steps
