use Rattle.graph_rework.proofs.StartLevels.{start_stays}
use Rattle.graph_rework.proofs.laws.start_stays.Goals as goal

pub returns : goal.returns
returns c = start_stays
