use Rattle.task_unroll.proofs.UnrollFaults.{one_unroll_fault}
use Rattle.task_unroll.proofs.laws.one_unroll_fault.Goals as goal

pub returns : goal.returns
returns c = one_unroll_fault
