-- A run in part: the jobs that are done, with their places, and what may be dispatched next.
--     IsInUse, CanStart, IsHeld, IsTakenBefore         busy cores, ready jobs and rules of the run, as far as jobs are done
--     IsPart table m scenario done schedule clock      the jobs that are done, with their places, are the part of a legal run up to the clock
--     IsTurn .. clock j core t                         job j may be dispatched next, on that core at t
--     undone done n                                    how many jobs below n are not done
use Rattle.std.specs.Prelude.{◌≡◌, ◌≢◌, ℕ, zero, suc, ◌+◌, ◌<◌, ◌≤◌, ◌⊎◌, Bool, true, false, List, length, IsTrue, if◌then◌else◌}
use Rattle.std.specs.List.{AllByRecursion}
use Rattle.job_model.specs.Table.{Table, predecessors, has_urgency_over}
use Rattle.run_meaning.specs.declared.places.Place.{Place}
use Rattle.run_meaning.specs.Ready.{start_of, core_of, finish_of, ready_time, IsRunning}
use Rattle.run_meaning.specs.Order.{starts_earlier}

module _ (table : Table) (m : ℕ) (scenario : List (ℕ × ℕ)) (done : ℕ → Bool) (schedule : List Place) where
  -- a job that is done runs on the core in the slot from t on
  pub record IsInUse (core t : ℕ) : Type 0 where
    pub by : ℕ
    pub is_job : by < length table.jobs
    pub is_done : done by ≡ true
    pub there : core_of schedule by ≡ core
    pub running : IsRunning scenario schedule by t

  -- job j is not done, its predecessors are, and it is ready by t
  pub record CanStart (j t : ℕ) : Type 0 where
    pub is_job : j < length table.jobs
    pub waits : done j ≡ false
    pub after : AllByRecursion (λ i. done i ≡ true) (predecessors table j)
    pub ready : ready_time table scenario schedule j ≤ t

  -- the jobs that are done and start at t are more urgent than j
  abbrev pub IsAfterUrgent : ℕ → ℕ → Type 0
  IsAfterUrgent j t = (i : ℕ) → i < length table.jobs → done i ≡ true → start_of schedule i ≡ t → IsTrue (has_urgency_over table i j)

  -- as `IsHeldBack`, by jobs that are done
  pub record IsHeld (j t : ℕ) : Type 0 where
    pub all_busy : (core : ℕ) → core < m → IsInUse core t
    pub urgent_first : IsAfterUrgent j t

  -- as `IsTaken`, by a job that is done
  pub record IsTakenBefore (j core t : ℕ) : Type 0 where
    pub by : ℕ
    pub is_job : by < length table.jobs
    pub is_done : done by ≡ true
    pub earlier : IsTrue (starts_earlier table schedule by j)
    pub there : core_of schedule by ≡ core
    pub running : IsRunning scenario schedule by t

  -- The jobs that are done are the part of a legal run up to the clock.
  pub record IsPart (clock : ℕ) : Type 0 where
    pub one_each : length schedule ≡ length table.jobs
    pub closed : (j : ℕ) → j < length table.jobs → done j ≡ true → AllByRecursion (λ i. done i ≡ true) (predecessors table j)
    pub by_clock : (j : ℕ) → j < length table.jobs → done j ≡ true → start_of schedule j ≤ clock
    pub on_cores : (j : ℕ) → j < length table.jobs → done j ≡ true → core_of schedule j < m
    pub after_ready : (j : ℕ) → j < length table.jobs → done j ≡ true → ready_time table scenario schedule j ≤ start_of schedule j
    pub apart : (i j : ℕ) → i < length table.jobs → j < length table.jobs → done i ≡ true → done j ≡ true → i ≢ j → core_of schedule i ≡ core_of schedule j →
        (finish_of scenario schedule i ≤ start_of schedule j) ⊎ (finish_of scenario schedule j ≤ start_of schedule i)
    pub held_back : (j t : ℕ) → j < length table.jobs → done j ≡ true → ready_time table scenario schedule j ≤ t → t < start_of schedule j → IsHeld j t
    pub lowest : (j core : ℕ) → j < length table.jobs → done j ≡ true → core < core_of schedule j → IsTakenBefore j core (start_of schedule j)
    -- a job that could have started before the clock was held back
    pub waiting : (j t : ℕ) → CanStart j t → t < clock → IsHeld j t
    -- what started at the clock is more urgent than what can still start then
    pub at_clock : (j : ℕ) → CanStart j clock → IsAfterUrgent j clock

  -- Job j may be dispatched next, on that core at t: t is the earliest time at which a job can start and a core is idle,
  -- j is the most urgent of the jobs that can start then, and the core the lowest that is idle.
  pub record IsTurn (clock j core t : ℕ) : Type 0 where
    pub can_start : CanStart j t
    pub not_before : clock ≤ t
    pub in_range : core < m
    pub idle : (i : ℕ) → i < length table.jobs → done i ≡ true → core_of schedule i ≡ core → finish_of scenario schedule i ≤ t
    pub lower_busy : (c : ℕ) → c < core → IsInUse c t
    pub earliest : (i s : ℕ) → clock ≤ s → s < t → CanStart i s → (c : ℕ) → c < m → IsInUse c s
    pub most_urgent : (i : ℕ) → CanStart i t → i ≢ j → IsTrue (has_urgency_over table j i)

-- how many jobs are not done
abbrev pub undone : (ℕ → Bool) → ℕ → ℕ
undone done zero = 0
undone done (suc n) = (if done n then 0 else 1) + undone done n
