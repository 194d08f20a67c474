use Rattle.graph_rework.proofs.Windows.{windows_stay}
use Rattle.graph_rework.proofs.laws.windows_stay.Goals as goal

pub returns : goal.returns
returns c = windows_stay
