use Rattle.graph_valid.proofs.ShortGraph as walk
use Rattle.graph_valid.proofs.BuiltGraph as law
use Rattle.graph_valid.proofs.laws.graph_is_short.Goals as goal

pub returns : goal.returns
returns c = law.graph_is_short (walk.graph_is_short (record {
  root_is_shaped = c.root_is_shaped.ensures;
  next_is_state = c.next_is_state.ensures;
  next_is_up_to = c.next_is_up_to.ensures;
  finish_is_up_to = c.finish_is_up_to.ensures;
  hull_is_up_to = c.hull_is_up_to.ensures;
  hulls = record {
    hull_is_state = c.hull_is_state.ensures;
    comparable = c.shaped_are_comparable.ensures;
    hull_is_least = c.state_hull_is_least.ensures;
    reflexive = c.widening_is_reflexive.ensures;
    transitive = c.widening_is_transitive.ensures;
  };
}))
