-- What is kept of the runs of scenarios that are taken one after another.
--     InnerBounds                          the table, the cores, how many scenarios were taken, and the ends of each job
--     IsGap bounds                         cores and lengths are in range
--     no_bounds table m                    no scenario was taken
--     ends_after place t before            the ends of a job that finishes at t in the scenario of that place
--     ends_by_run table place .. ends      those of each job
--     with_run bounds scenario schedule    the bounds with the finishes of one more run
--     TakesScenario old scenario new       the run of the scenario was taken, and each legal schedule of it has the same finishes
use Rattle.std.specs.Prelude.{◌≡◌, ℕ, ◌+◌, ◌<◌, ◌≤◌, List, [], length, map, max, min, nat_lt, Option, None, Some, slice_get, if◌then◌else◌}
use Rattle.lists.specs.Numbers.{numbers_below}
use Rattle.job_model.specs.declared.limits.TheConstants.{MOST_CORES}
use Rattle.job_model.specs.Table.{Table}
use Rattle.run_meaning.specs.declared.places.Place.{Place}
use Rattle.run_meaning.specs.Legal.{Legal}
use Rattle.run_meaning.specs.Ready.{finish_of}
use Rattle.gap_report.specs.declared.inner_ends.InnerEnds.{InnerEnds}

-- The table, the cores, how many scenarios were taken, and for each job its ends: of none before the first scenario.
pub record InnerBounds : Type 0 where
  pub table : Table
  pub cores : ℕ
  pub taken : ℕ
  pub ends : List InnerEnds

-- there is a core, there are not too many, and once a scenario was taken each job has ends
pub record IsGap (bounds : InnerBounds) : Type 0 where
  pub some_core : 1 ≤ bounds.cores
  pub few_cores : bounds.cores ≤ MOST_CORES
  pub before : bounds.taken ≡ 0 → bounds.ends ≡ []
  pub after : 0 < bounds.taken → length bounds.ends ≡ length bounds.table.jobs

-- no scenario was taken
abbrev pub no_bounds : Table → ℕ → InnerBounds
no_bounds table m = record { table = table; cores = m; taken = 0; ends = [] }

-- The first finish is both ends. A later one becomes an end where it lies outside of them, and the place is that of its scenario.
abbrev pub ends_after : ℕ → ℕ → Option InnerEnds → InnerEnds
ends_after place t None = record { lo = t; lo_trial = place; hi = t; hi_trial = place }
ends_after place t (Some e) = record {
  lo = min e.lo t;
  lo_trial = if nat_lt t e.lo then place else e.lo_trial;
  hi = max e.hi t;
  hi_trial = if nat_lt e.hi t then place else e.hi_trial;
}

-- the ends of each job once the scenario of that place has run by this schedule
abbrev pub ends_by_run : Table → ℕ → List (ℕ × ℕ) → List Place → List InnerEnds → List InnerEnds
ends_by_run table place scenario schedule ends =
    map (λ j. ends_after place (finish_of scenario schedule j) (slice_get ends j)) (numbers_below (length table.jobs))

-- the bounds with the finishes of one more run, whose place is the number of scenarios taken before
abbrev pub with_run : InnerBounds → List (ℕ × ℕ) → List Place → InnerBounds
with_run bounds scenario schedule = record bounds { taken = bounds.taken + 1; ends = ends_by_run bounds.table bounds.taken scenario schedule bounds.ends }

-- One more scenario was taken. The finishes that count are those of each legal schedule of it.
pub record TakesScenario (old : InnerBounds) (scenario : List (ℕ × ℕ)) (new : InnerBounds) : Type 0 where
  pub schedule : List Place
  pub legal : Legal old.table old.cores scenario schedule
  pub in_each : (other : List Place) → Legal old.table old.cores scenario other → (j : ℕ) → j < length old.table.jobs → finish_of scenario other j ≡ finish_of scenario schedule j
  pub adds : new ≡ with_run old scenario schedule
