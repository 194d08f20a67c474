-- Which job is more urgent, worked out: by priority, and at one priority by the IDs; and the ranks of a table's jobs.
use Rattle.std.proofs.Common.{◌≡◌, ℕ, true, false, [], ◌∷◌, map, refl}
use Rattle.job_model.specs.declared.job_row.Job.{Job}
use Rattle.lists.specs.Numbers.{numbers_below}
use Rattle.job_model.specs.Ranks.{rank_of}
use Rattle.job_model.specs.Table.{table_of}
use Rattle.job_model.specs.Urgency.{is_more_urgent}

job : ℕ → ℕ → ℕ → Job
job task number priority = record { task = task; job = number; rmin = 0; rmax = 0; cmin = 1; cmax = 1; deadline = 9; priority = priority }

-- the smaller priority number is the more urgent, whatever the IDs
smaller_priority : is_more_urgent (job 9 9 1) (job 1 1 2) ≡ true
unfolding job
smaller_priority = refl

greater_priority : is_more_urgent (job 1 1 2) (job 9 9 1) ≡ false
unfolding job
greater_priority = refl

-- at one priority the smaller task ID
smaller_task : is_more_urgent (job 1 9 2) (job 2 1 2) ≡ true
unfolding job
smaller_task = refl

-- in one task the smaller job ID, up to the greatest number of 64 bits
smaller_job : is_more_urgent (job 18446744073709551615 18446744073709551614 7) (job 18446744073709551615 18446744073709551615 7) ≡ true
unfolding job
smaller_job = refl

-- of five jobs, with ties of priority and of task, so many are more urgent than each
ranks : map (rank_of (table_of (job 1 3 2 ∷ job 2 1 1 ∷ job 1 2 1 ∷ job 1 1 1 ∷ job 1 0 2 ∷ []))) (numbers_below 5) ≡ 4 ∷ 2 ∷ 1 ∷ 0 ∷ 3 ∷ []
unfolding job
ranks = refl
