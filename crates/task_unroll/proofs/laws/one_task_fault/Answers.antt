use Rattle.task_unroll.proofs.OneTaskFault.{one_task_fault}
use Rattle.task_unroll.proofs.laws.one_task_fault.Goals as goal

pub returns : goal.returns
returns c = one_task_fault c.rows_agree.ensures c.rows_keep_rules.ensures c.one_first_fault.ensures
