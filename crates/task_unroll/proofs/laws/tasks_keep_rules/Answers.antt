use Rattle.task_unroll.proofs.TaskLists.{tasks_keep_rules}
use Rattle.task_unroll.proofs.laws.tasks_keep_rules.Goals as goal

pub returns : goal.returns
returns c = tasks_keep_rules c.rows_agree.ensures c.rows_keep_rules.ensures
