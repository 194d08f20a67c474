use Rattle.std.proofs.Common.{◌≡◌, ◌∷◌, [], map, take}
use Rattle.response_report.proofs.task_report.write_tasks.Given as goal

-- the rows of the tasks so far
abbrev pub invariant-loop-task : goal.invariant-loop-task
invariant-loop-task l = l.rows.items ≡ map (λ t. t.0 ∷ t.1 ∷ []) (take l.task-index l.tasks)
