-- Legal schedules of a scenario on m cores: global, without preemption, by job-level fixed priority.
-- The system model is that of Nasri, Nelissen and Brandenburg ("A Response-Time Analysis for Non-Preemptive Job Sets under
-- Global Scheduling", ECRTS 2018, the section on the system model), with precedence as in their paper of ECRTS 2019. What
-- differs: time goes in unit slots, whole schedules are judged and no queue is known, and ties are broken by task and job.
--     Legal table m scenario schedule               the four rules, L0 to L3
--     TakesLowestIdle table scenario schedule j     job j is on the lowest core that is idle at its start
--     LowestIdle table scenario schedule            each job is
use Rattle.std.specs.Prelude.{◌≡◌, ◌≢◌, ℕ, List, ◌≤◌, ◌<◌, ◌⊎◌, length, IsTrue}
use Rattle.job_model.specs.Table.{Table, has_urgency_over}
use Rattle.run_meaning.specs.declared.places.Place.{Place}
use Rattle.run_meaning.specs.Ready.{start_of, core_of, finish_of, ready_time, IsRunning}
use Rattle.run_meaning.specs.Order.{starts_earlier}

module _ (table : Table) (scenario : List (ℕ × ℕ)) (schedule : List Place) where
  -- a job runs on the core in the slot from t on
  pub record IsBusy (core t : ℕ) : Type 0 where
    pub by : ℕ
    pub is_job : by < length table.jobs
    pub there : core_of schedule by ≡ core
    pub running : IsRunning scenario schedule by t

  -- Every core is busy in the slot from t on, and the jobs that start at t are all more urgent than j.
  pub record IsHeldBack (m j t : ℕ) : Type 0 where
    pub all_busy : (core : ℕ) → core < m → IsBusy core t
    pub urgent_first : (i : ℕ) → i < length table.jobs → start_of schedule i ≡ t → IsTrue (has_urgency_over table i j)

-- What the scheduler may do with these releases and costs. It never leaves a core idle while a job is ready, and
-- starts the more urgent of the ready jobs; which of the idle cores a job takes is open.
pub record Legal (table : Table) (m : ℕ) (scenario : List (ℕ × ℕ)) (schedule : List Place) : Type 0 where
  pub one_each : length schedule ≡ length table.jobs
  -- L0: every core is below m
  pub on_cores : (j : ℕ) → j < length table.jobs → core_of schedule j < m
  -- L1: no job starts before it is ready
  pub after_ready : (j : ℕ) → j < length table.jobs → ready_time table scenario schedule j ≤ start_of schedule j
  -- L2: two jobs on one core do not overlap
  pub apart : (i j : ℕ) → i < length table.jobs → j < length table.jobs → i ≢ j → core_of schedule i ≡ core_of schedule j →
      (finish_of scenario schedule i ≤ start_of schedule j) ⊎ (finish_of scenario schedule j ≤ start_of schedule i)
  -- L3: while a job is ready and waits, every core is busy and only more urgent jobs start
  pub held_back : (j t : ℕ) → j < length table.jobs → ready_time table scenario schedule j ≤ t → t < start_of schedule j → IsHeldBack table scenario schedule m j t

module _ (table : Table) (scenario : List (ℕ × ℕ)) (schedule : List Place) where
  -- a job that starts earlier, by (start, urgency), runs on the core at t
  pub record IsTaken (j core t : ℕ) : Type 0 where
    pub by : ℕ
    pub is_job : by < length table.jobs
    pub earlier : IsTrue (starts_earlier table schedule by j)
    pub there : core_of schedule by ≡ core
    pub running : IsRunning scenario schedule by t

  -- Of the cores that no earlier job occupies at its start, job j has the lowest.
  pub record TakesLowestIdle (j : ℕ) : Type 0 where
    pub idle : ¬ IsTaken j (core_of schedule j) (start_of schedule j)
    pub lowest : (core : ℕ) → core < core_of schedule j → IsTaken j core (start_of schedule j)

  abbrev pub LowestIdle : Type 0
  LowestIdle = (j : ℕ) → j < length table.jobs → TakesLowestIdle j
