-- Laws of legal schedules.
use Rattle.std.specs.Prelude.{◌≡◌, ℕ, List, ◌+◌, ◌*◌, ◌<◌, ◌≤◌, length, Contains, IsTrue}
use Rattle.job_model.specs.declared.limits.TheConstants.{MOST_ARRIVAL, MOST_COST, MOST_JOBS}
use Rattle.job_model.specs.Table.{Table, IsTable, predecessors}
use Rattle.job_model.specs.Scenario.{Fits}
use Rattle.run_meaning.specs.declared.places.Place.{Place}
use Rattle.run_meaning.specs.Ready.{start_of, finish_of}
use Rattle.run_meaning.specs.Legal.{Legal, LowestIdle}
use Rattle.run_meaning.specs.Order.{starts_earlier}

-- Two legal schedules of one scenario have the same starts.
abbrev pub StartsAgree : Type 0
StartsAgree =
    (table : Table) (m : ℕ) (scenario : List (ℕ × ℕ)) (one other : List Place) → IsTable table → Fits table scenario →
    Legal table m scenario one → Legal table m scenario other → (j : ℕ) → j < length table.jobs → start_of one j ≡ start_of other j

-- By (start, urgency) each predecessor comes earlier.
abbrev pub PredecessorsComeEarlier : Type 0
PredecessorsComeEarlier =
    (table : Table) (m : ℕ) (scenario : List (ℕ × ℕ)) (schedule : List Place) → IsTable table → Fits table scenario →
    Legal table m scenario schedule → (i j : ℕ) → j < length table.jobs → Contains (predecessors table j) i → IsTrue (starts_earlier table schedule i j)

-- Two legal schedules of one scenario in which each job takes the lowest idle core are one.
abbrev pub OneRun : Type 0
OneRun =
    (table : Table) (m : ℕ) (scenario : List (ℕ × ℕ)) (one other : List Place) → IsTable table → Fits table scenario →
    Legal table m scenario one → Legal table m scenario other → LowestIdle table scenario one → LowestIdle table scenario other → one ≡ other

-- Each scenario that fits has a legal schedule in which each job takes the lowest idle core.
abbrev pub RunsExist : Type 0
RunsExist =
    (table : Table) (m : ℕ) (scenario : List (ℕ × ℕ)) → IsTable table → 0 < m → Fits table scenario →
    (schedule : List Place) × Legal table m scenario schedule × LowestIdle table scenario schedule

-- In a legal schedule each job has finished by the latest arrival and as many greatest costs as there may be jobs,
-- which is below 2 ^ 61.
abbrev pub RunsEnd : Type 0
RunsEnd =
    (table : Table) (m : ℕ) (scenario : List (ℕ × ℕ)) (schedule : List Place) → IsTable table → Fits table scenario →
    Legal table m scenario schedule → (j : ℕ) → j < length table.jobs → finish_of scenario schedule j ≤ MOST_ARRIVAL + MOST_JOBS * MOST_COST
