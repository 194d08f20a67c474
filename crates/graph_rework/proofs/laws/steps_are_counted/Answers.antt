use Rattle.graph_rework.proofs.CountedSteps.{steps_are_counted}
use Rattle.graph_rework.proofs.laws.steps_are_counted.Goals as goal

pub returns : goal.returns
returns c = steps_are_counted
