use Rattle.graph_rework.proofs.OrderedStates.{order_gives_states}
use Rattle.graph_rework.proofs.laws.order_gives_states.Goals as goal

pub returns : goal.returns
returns c = order_gives_states
