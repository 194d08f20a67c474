use Rattle.std.proofs.Common.{◌≡◌, map, take}
use Rattle.task_unroll.specs.TaskRows.{task_columns}
use Rattle.task_unroll.proofs.read.tasks_of_rows.Given as goal

-- the tasks of the rows so far
abbrev pub invariant-loop-place : goal.invariant-loop-place
invariant-loop-place l = map task_columns l.tasks.items ≡ take l.place l.rows
