-- What the sorting's own steps say of the jobs of a schedule.
--     dispatch_of table schedule j     job number j, with what it is sorted by
--     dispatch_key job                 what it is sorted by
use Rattle.std.specs.Prelude.{ℕ, List}
use Rattle.job_model.specs.Ranks.{rank_of}
use Rattle.job_model.specs.Table.{Table}
use Rattle.run_meaning.specs.declared.places.Place.{Place}
use Rattle.run_meaning.specs.declared.order.Dispatch.{Dispatch}
use Rattle.run_meaning.specs.Ready.{start_of}

-- job number j, with what it is sorted by
abbrev pub dispatch_of : Table → List Place → ℕ → Dispatch
dispatch_of table schedule j = record { no = j; start = start_of schedule j; rank = rank_of table j }

-- the start, and then how many jobs are more urgent
abbrev pub dispatch_key : Dispatch → ℕ × ℕ
dispatch_key job = (job.start, job.rank)
