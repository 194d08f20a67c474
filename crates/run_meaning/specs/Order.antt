-- The order in which a schedule dispatches its jobs.
--     dispatch_cmp table schedule i j        by start, and at one start by urgency
--     starts_earlier table schedule i j      whether job i is dispatched before job j
--     dispatch_order table schedule          the numbers of all jobs in that order
use Rattle.std.specs.Prelude.{ℕ, Bool, List, [], ◌∷◌, length, if◌then◌else◌}
use Rattle.std.specs.declared.cmp.Ordering.{Ordering}
use Rattle.std.specs.Ordering.{nat_cmp, then_cmp, on, is_lt}
use Rattle.lists.specs.Numbers.{numbers_below}
use Rattle.job_model.specs.Urgency.{urgency_cmp}
use Rattle.job_model.specs.Table.{Table, job_at}
use Rattle.run_meaning.specs.declared.places.Place.{Place}
use Rattle.run_meaning.specs.Ready.{start_of}
use Rattle.lists.specs.Sorting.{sorted_by}

-- by start, and at one start by urgency
abbrev pub dispatch_cmp : Table → List Place → ℕ → ℕ → Ordering
dispatch_cmp table schedule = then_cmp (on (start_of schedule) nat_cmp) (on (job_at table) urgency_cmp)

abbrev pub starts_earlier : Table → List Place → ℕ → ℕ → Bool
starts_earlier table schedule i j = is_lt (dispatch_cmp table schedule i j)

-- the numbers of all jobs, by (start, urgency)
abbrev pub dispatch_order : Table → List Place → List ℕ
dispatch_order table schedule = sorted_by (starts_earlier table schedule) (numbers_below (length table.jobs))
