-- Trials: scenarios in which jobs may finish early or late, by their numbers.
--     last_trial table            the number of the last one
--     best_trial j, worst_trial j those that are made for an early and for a late finish of job j
--     plain_row a j k             the release and the cost that job a, of number j, has in trial k
--     plain_trial table k         those of all jobs, where the trial needs no graph
use Rattle.std.specs.Prelude.{ℕ, ◌+◌, ◌*◌, ◌%◌, ◌==◌, ◌||◌, List, length, map, if◌then◌else◌}
use Rattle.lists.specs.Numbers.{numbers_below}
use Rattle.job_model.specs.Table.{Table, job_at}
use Rattle.job_model.specs.declared.job_row.Job.{Job}

-- four trials for the table, and two for each job
abbrev pub last_trial : Table → ℕ
last_trial table = 3 + 2 * length table.jobs

-- the trial for an early finish of job j
abbrev pub best_trial : ℕ → ℕ
best_trial j = 4 + 2 * j

-- the trial for a late one
abbrev pub worst_trial : ℕ → ℕ
worst_trial j = 5 + 2 * j

-- Trials 0 to 3 release all jobs as early or as late as can be, and each costs as little or as much as it can: early and
-- little, early and much, late and little, late and much. The best trial of a job is like trial 2, but for the job itself,
-- which is as in trial 0. Its worst trial is like trial 1, but for the job itself, which is as in trial 3.
unfoldable pub plain_row : Job → ℕ → ℕ → ℕ × ℕ
plain_row a j k =
    if (k == 0) || (k == best_trial j) then (a.rmin, a.cmin)
    else if (k == 3) || (k == worst_trial j) then (a.rmax, a.cmax)
    else if k % 2 == 0 then (a.rmax, a.cmin)
    else (a.rmin, a.cmax)

-- the release and the cost of each job in trial k, where it needs no graph
abbrev pub plain_trial : Table → ℕ → List (ℕ × ℕ)
plain_trial table k = map (λ j. plain_row (job_at table j) j k) (numbers_below (length table.jobs))
