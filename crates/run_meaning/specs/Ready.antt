-- When jobs start, finish and become ready in a schedule.
--     start_of schedule j, core_of schedule j       when and where job number j starts
--     finish_of scenario schedule j                 when it finishes
--     ready_time table scenario schedule j          when it is released and all its predecessors have finished
--     IsRunning scenario schedule i t               job i occupies its core in the slot from t to t + 1
use Rattle.std.specs.Prelude.{ℕ, List, ◌∷◌, ◌+◌, ◌≤◌, ◌<◌, map, slice_index_or}
use Rattle.lists.specs.Numbers.{greatest}
use Rattle.job_model.specs.Table.{Table, predecessors}
use Rattle.job_model.specs.Scenario.{release_of, cost_of}
use Rattle.run_meaning.specs.declared.places.Place.{Place}

-- read only past the end of a schedule
abbrev pub no_place : Place
no_place = record { start = 0; core = 0 }

abbrev pub start_of : List Place → ℕ → ℕ
start_of schedule j = (slice_index_or schedule j no_place).start

abbrev pub core_of : List Place → ℕ → ℕ
core_of schedule j = (slice_index_or schedule j no_place).core

abbrev pub finish_of : List (ℕ × ℕ) → List Place → ℕ → ℕ
finish_of scenario schedule j = start_of schedule j + cost_of scenario j

-- the greatest of the release of job j and the finish times of its predecessors
abbrev pub ready_time : Table → List (ℕ × ℕ) → List Place → ℕ → ℕ
ready_time table scenario schedule j = greatest (release_of scenario j ∷ map (finish_of scenario schedule) (predecessors table j))

-- Job i has started by t, and has not finished then.
abbrev pub IsRunning : List (ℕ × ℕ) → List Place → ℕ → ℕ → Type 0
IsRunning scenario schedule i t = (start_of schedule i ≤ t) × (t < finish_of scenario schedule i)
