use Rattle.std.proofs.Common.{◌≡◌, ◌++◌}
use Rattle.response_report.proofs.task_report.task_rows.Given as goal

-- the tasks so far and those that are left
abbrev pub invariant-loop-task : goal.invariant-loop-task
invariant-loop-task l = l.tasks.items ++ l.task-iterator ≡ l.initial.task-iterator
