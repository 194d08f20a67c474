-- What the dispatcher's loop keeps.
--     IsUnderway table m scenario done schedule clock turn     `turn` jobs are done
--     AreFree table m scenario done schedule free      when each core gets free
--     LoopKeeps table m scenario queued schedule free clock turn     both, and what the queues hold
--     HasTurn table m scenario queued free clock       both for some places, where a job is left
--     IsNext table m scenario old free clock new found     whatever the places are, what is found is a turn, and its job leaves the heaps
use Rattle.std.specs.Prelude.{◌≡◌, ℕ, ◌+◌, ◌*◌, ◌<◌, ◌≤◌, ◌⊎◌, Bool, true, List, length, slice_index}
use Rattle.job_model.specs.declared.limits.TheConstants.{MOST_ARRIVAL, MOST_COST, MOST_JOBS}
use Rattle.job_model.specs.Table.{Table}
use Rattle.job_model.specs.Scenario.{cost_of}
use Rattle.run_meaning.specs.declared.places.Place.{Place}
use Rattle.run_meaning.specs.Ready.{core_of, finish_of}
use Rattle.run_turns.specs.Parts.{IsPart, IsTurn, undone}
use Rattle.replay.specs.Queues.{Queued, AreCounted, AreQueued, IsWithout, is_dispatched}

-- What the dispatcher's loop keeps: `turn` jobs are done, the part of a legal run up to the clock, and times are within limits.
pub record IsUnderway (table : Table) (m : ℕ) (scenario : List (ℕ × ℕ)) (done : ℕ → Bool) (schedule : List Place) (clock turn : ℕ) : Type 0 where
  pub part : IsPart table m scenario done schedule clock
  pub clock_limit : clock ≤ MOST_ARRIVAL + turn * MOST_COST
  pub finish_limit : (i : ℕ) → i < length table.jobs → done i ≡ true → finish_of scenario schedule i ≤ MOST_ARRIVAL + turn * MOST_COST
  pub left : undone done (length table.jobs) + turn ≡ length table.jobs

-- the last job on core c finishes when the core gets free
pub record LastOn (table : Table) (scenario : List (ℕ × ℕ)) (done : ℕ → Bool) (schedule : List Place) (free : List ℕ) (c : ℕ) : Type 0 where
  pub by : ℕ
  pub is_job : by < length table.jobs
  pub is_done : done by ≡ true
  pub there : core_of schedule by ≡ c
  pub until : finish_of scenario schedule by ≡ slice_index free c

-- For each core: when what is dispatched to it has finished.
pub record AreFree (table : Table) (m : ℕ) (scenario : List (ℕ × ℕ)) (done : ℕ → Bool) (schedule : List Place) (free : List ℕ) : Type 0 where
  pub core_count : length free ≡ m
  pub after : (i : ℕ) → i < length table.jobs → done i ≡ true → finish_of scenario schedule i ≤ slice_index free (core_of schedule i)
  pub since : (c : ℕ) → c < m → (slice_index free c ≡ 0) ⊎ LastOn table scenario done schedule free c

-- What the loop keeps of its values: the jobs that are in no heap and wait for no other are dispatched to these places.
pub record LoopKeeps (table : Table) (m : ℕ) (scenario : List (ℕ × ℕ)) (queued : Queued) (schedule : List Place) (free : List ℕ) (clock turn : ℕ) : Type 0 where
  pub stands : IsUnderway table m scenario (is_dispatched queued) schedule clock turn
  pub frees : AreFree table m scenario (is_dispatched queued) schedule free
  pub counted : AreCounted table scenario (is_dispatched queued) schedule queued.readiness
  pub queues : AreQueued table clock queued

-- The jobs that are in no heap and wait for no other are dispatched, in some places, and a job is left.
pub record HasTurn (table : Table) (m : ℕ) (scenario : List (ℕ × ℕ)) (queued : Queued) (free : List ℕ) (clock : ℕ) : Type 0 where
  pub schedule : List Place
  pub turn : ℕ
  pub stands : IsUnderway table m scenario (is_dispatched queued) schedule clock turn
  pub frees : AreFree table m scenario (is_dispatched queued) schedule free
  pub counted : AreCounted table scenario (is_dispatched queued) schedule queued.readiness
  pub queues : AreQueued table clock queued
  pub more : turn < length table.jobs

-- What is dispatched next: a job, its core and its start. Whatever the places of the others are, this is a turn, and the job leaves the queues.
pub record IsNext (table : Table) (m : ℕ) (scenario : List (ℕ × ℕ)) (old : Queued) (free : List ℕ) (clock : ℕ) (new : Queued) (found : ℕ × ℕ × ℕ) : Type 0 where
  pub turn : (schedule : List Place) (turn : ℕ) → IsUnderway table m scenario (is_dispatched old) schedule clock turn →
      AreFree table m scenario (is_dispatched old) schedule free → AreCounted table scenario (is_dispatched old) schedule old.readiness →
      IsTurn table m scenario (is_dispatched old) schedule clock found.0 found.1 found.2
  pub taken : IsWithout table found.2 old new found.0
  pub is_job : found.0 < length table.jobs
  pub is_core : found.1 < m
  pub in_time : found.2 + cost_of scenario found.0 ≤ MOST_ARRIVAL + MOST_JOBS * MOST_COST
