use Rattle.graph_rework.proofs.StayingStates.{states_stay}
use Rattle.graph_rework.proofs.laws.states_stay.Goals as goal

pub returns : goal.returns
returns c = states_stay
