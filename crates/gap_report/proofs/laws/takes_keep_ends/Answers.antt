use Rattle.gap_report.proofs.KeptEnds.{takes_keep_ends}
use Rattle.gap_report.proofs.laws.takes_keep_ends.Goals as goal

pub returns : goal.returns
returns c = takes_keep_ends
