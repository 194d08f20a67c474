-- Laws of job tables.
--     RanksOrderJobs     of two jobs the one of the smaller rank is the more urgent, and no two jobs have one rank
use Rattle.std.specs.Prelude.{◌≡◌, ◌≢◌, ℕ, ◌<◌, length, nat_lt}
use Rattle.job_model.specs.Ranks.{rank_of}
use Rattle.job_model.specs.Table.{Table, IsTable, has_urgency_over}

-- Of two jobs of a table the one of the smaller rank is the more urgent, and no two jobs have one rank.
abbrev pub RanksOrderJobs : Type 0
RanksOrderJobs =
    (table : Table) (i j : ℕ) → IsTable table → i < length table.jobs → j < length table.jobs →
    (has_urgency_over table i j ≡ nat_lt (rank_of table i) (rank_of table j)) × (i ≢ j → rank_of table i ≢ rank_of table j)
