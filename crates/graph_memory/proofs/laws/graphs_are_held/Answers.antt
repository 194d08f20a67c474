use Rattle.graph_memory.proofs.HeldGraphs as law
use Rattle.graph_memory.proofs.laws.graphs_are_held.Goals as goal

pub returns : goal.returns
returns c = law.graphs_are_held c.edges_are_steps.ensures c.each_state_has_edge.ensures c.levels_are_fit.ensures
