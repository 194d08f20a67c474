use Rattle.task_unroll.proofs.Counts.{last_within, releases_none, releases_some}
use Rattle.task_unroll.proofs.count.count_releases.Goals as goal

pub returns-then-horizon-task-clause-count : goal.returns-then-horizon-task-clause-count
returns-then-horizon-task-clause-count c = releases_none c.args.task.now c.args.horizon c.requires.task c.if-horizon-task.true

pub returns-clause-count : goal.returns-clause-count
returns-clause-count c = releases_some c.args.task.now c.args.horizon c.requires.task c.if-horizon-task.false

pub returns-clause-few : goal.returns-clause-few
returns-clause-few c = last_within c.args.task.now c.args.horizon c.requires.task c.if-horizon-task.false
