use Rattle.graph_rework.proofs.Windows.{next_stays}
use Rattle.graph_rework.proofs.laws.next_stays.Goals as goal

pub returns : goal.returns
returns c = next_stays
