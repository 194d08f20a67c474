use Rattle.graph_rework.proofs.CountedRework.{rework_is_counted}
use Rattle.graph_rework.proofs.laws.rework_is_counted.Goals as goal

pub returns : goal.returns
returns c = rework_is_counted
