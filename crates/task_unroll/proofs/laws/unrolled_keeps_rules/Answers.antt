use Rattle.task_unroll.proofs.UnrollFaults.{unrolled_keeps_rules}
use Rattle.task_unroll.proofs.laws.unrolled_keeps_rules.Goals as goal

pub returns : goal.returns
returns c = unrolled_keeps_rules
