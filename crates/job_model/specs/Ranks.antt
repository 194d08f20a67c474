-- The rank of a job by urgency.
--     rank_of table j              how many jobs of the table are more urgent than j: 0 is the rank of the most urgent
--     AreRanks table ranks         the rank of each job
use Rattle.std.specs.Prelude.{◌≡◌, ℕ, ◌<◌, List, count_by, length, slice_index_or}
use Rattle.lists.specs.Numbers.{numbers_below}
use Rattle.job_model.specs.Table.{Table, has_urgency_over}

-- how many jobs of the table are more urgent than j
abbrev pub rank_of : Table → ℕ → ℕ
rank_of table j = count_by (λ i. has_urgency_over table i j) (numbers_below (length table.jobs))

-- The rank of each job, by its number.
pub record AreRanks (table : Table) (ranks : List ℕ) : Type 0 where
  pub one_each : length ranks ≡ length table.jobs
  pub own : (j : ℕ) → j < length table.jobs → slice_index_or ranks j 0 ≡ rank_of table j
