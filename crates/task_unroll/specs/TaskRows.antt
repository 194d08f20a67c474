-- A task as the row of a task file, and what such a file reads as.
--     task_columns a           the numbers of its row
--     TaskRows bytes tasks     the text is a heading, and a row for each task
use Rattle.std.specs.Prelude.{ℕ, List, [], ◌∷◌, map}
use Rattle.csv_numbers.specs.Rows.{Rows}
use Rattle.task_unroll.specs.declared.task.Task.{Task}

-- task, period, offset, jitter, least and greatest cost, relative deadline
abbrev pub task_columns : Task → List ℕ
task_columns a = a.task ∷ a.period ∷ a.offset ∷ a.jitter ∷ a.cmin ∷ a.cmax ∷ a.deadline ∷ []

-- the text is a heading, whatever it holds, and a row of seven numbers for each task
abbrev pub TaskRows : List ℕ → List Task → Type 0
TaskRows bytes tasks = Rows bytes 7 (map task_columns tasks)
