use Rattle.graph_valid.proofs.WholeGraph as walk
use Rattle.graph_valid.proofs.BuiltGraph as law
use Rattle.graph_valid.proofs.laws.graph_is_valid.Goals as goal

pub returns : goal.returns
returns c = law.graph_is_valid (walk.graph_is_valid c.root_is_shaped.ensures c.next_is_state.ensures (record {
  hull_is_state = c.hull_is_state.ensures;
  comparable = c.shaped_are_comparable.ensures;
  hull_is_least = c.state_hull_is_least.ensures;
  reflexive = c.widening_is_reflexive.ensures;
  transitive = c.widening_is_transitive.ensures;
}))
