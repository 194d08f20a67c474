use Rattle.graph_rework.proofs.EdgeTotals.{edges_tell_totals}
use Rattle.graph_rework.proofs.laws.edges_tell_totals.Goals as goal

pub returns : goal.returns
returns c = edges_tell_totals
