-- The jobs that periodic tasks release before a horizon.
--     release_at a k                     the earliest release of job k + 1 of the task
--     releases_of a horizon              the k whose release is before the horizon
--     priority_of policy a k             what makes job k + 1 urgent
--     released_job policy a k            job k + 1
--     released_jobs policy horizon a     the jobs of a task
--     unrolled policy tasks horizon      the jobs of all tasks
--     released_count tasks horizon       how many there are
use Rattle.std.specs.Prelude.{ℕ, List, ◌+◌, ◌*◌, filter, flat_map, length, map, nat_lt, sum_by}
use Rattle.lists.specs.Numbers.{numbers_below}
use Rattle.job_model.specs.declared.job_row.Job.{Job}
use Rattle.task_unroll.specs.declared.task.Task.{Task}
use Rattle.task_unroll.specs.declared.task.Policy.{Policy}
use Rattle.task_unroll.specs.declared.task.Policy.TheVariants.{Rate, Deadline, Edf}

-- the earliest release of job k + 1 of the task
abbrev pub release_at : Task → ℕ → ℕ
release_at a k = a.offset + k * a.period

-- The k whose release is before the horizon, in rising order. Such a k is below the horizon, since a period is at least 1.
abbrev pub releases_of : Task → ℕ → List ℕ
releases_of a horizon = filter (λ k. nat_lt (release_at a k) horizon) (numbers_below horizon)

-- the period, the relative deadline, or the absolute deadline of the job itself
abbrev pub priority_of : Policy → Task → ℕ → ℕ
priority_of Rate a k = a.period
priority_of Deadline a k = a.deadline
priority_of Edf a k = release_at a k + a.deadline

-- job k + 1 of the task
abbrev pub released_job : Policy → Task → ℕ → Job
released_job policy a k = record {
  task = a.task;
  job = k + 1;
  rmin = release_at a k;
  rmax = release_at a k + a.jitter;
  cmin = a.cmin;
  cmax = a.cmax;
  deadline = release_at a k + a.deadline;
  priority = priority_of policy a k;
}

-- the jobs of a task, by rising release
abbrev pub released_jobs : Policy → ℕ → Task → List Job
released_jobs policy horizon a = map (released_job policy a) (releases_of a horizon)

-- the jobs of all tasks, in the order of the tasks
abbrev pub unrolled : Policy → List Task → ℕ → List Job
unrolled policy tasks horizon = flat_map (released_jobs policy horizon) tasks

-- how many jobs the tasks release before the horizon
abbrev pub released_count : List Task → ℕ → ℕ
released_count tasks horizon = sum_by (λ a. length (releases_of a horizon)) tasks
