-- A job as the row of a job file.
--     job_columns a     the numbers of its row
use Rattle.std.specs.Prelude.{ℕ, List, [], ◌∷◌}
use Rattle.job_model.specs.declared.job_row.Job.{Job}

-- task, job, earliest and latest release, least and greatest cost, deadline, priority
abbrev pub job_columns : Job → List ℕ
job_columns a = a.task ∷ a.job ∷ a.rmin ∷ a.rmax ∷ a.cmin ∷ a.cmax ∷ a.deadline ∷ a.priority ∷ []
