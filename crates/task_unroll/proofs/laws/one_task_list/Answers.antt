use Rattle.task_unroll.proofs.TaskLists.{one_task_list}
use Rattle.task_unroll.proofs.laws.one_task_list.Goals as goal

pub returns : goal.returns
returns c = one_task_list c.rows_agree.ensures
