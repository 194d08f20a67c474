use Rattle.run_audit.proofs.OneFirstBreak.{one_first_break}
use Rattle.run_audit.proofs.laws.one_first_break.Goals as goal

pub returns : goal.returns
returns c = one_first_break
