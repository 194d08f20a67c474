-- The jobs that are not dispatched: those that wait for a core, those that are ready later, and those that wait for others.
--     soonest_first, urgent_first            the orders of the two heaps
--     Queued                                 the two heaps' elements, in no order, and how far each job is from being ready
--     missing_of readiness j                 how many predecessors of job number j are not dispatched
--     time_of readiness j                    when it is ready, as far as those that are dispatched go
--     copies queued j                        how often job number j is in the heaps
--     is_dispatched queued j                 job j is in neither heap, and waits for no other job
--     urgency_of table j                     the urgency of job j, as it waits
--     AreQueued table now queued             who waits for a core by the time `now`, and who is ready later
--     AreCounted table scenario done schedule readiness     what each job lacks, where those jobs are dispatched to these places
--     HasAll table scenario queued           all jobs are there
--     StaysQueued, IsNextReady, TakesFirst, Counts, Unblocks     what the calls of the queues do
--     IsWithout table now old new j          job j, and no other, has left the heaps
use Rattle.std.specs.Prelude.{◌≡◌, ◌≢◌, ℕ, ◌+◌, ◌-◌, ◌≤◌, ◌<◌, ◌⊎◌, ◌==◌, ◌&&◌, Bool, true, false, not, List, [], ◌∷◌, length, map, max, filter, slice_index_or, slice_set, if◌then◌else◌, All, Contains, count_by, IsPermutation, MatchBool}
use Rattle.std.specs.declared.cmp.Ordering.{Ordering}
use Rattle.std.specs.declared.cmp.Reverse.{Reverse}
use Rattle.std.specs.Ordering.{nat_cmp, then_cmp, on, flip_args}
use Rattle.std.specs.BinaryHeap.{IsUpperBound}
use Rattle.lists.specs.Numbers.{greatest}
use Rattle.job_model.specs.Ranks.{rank_of}
use Rattle.job_model.specs.Table.{Table, predecessors}
use Rattle.job_model.specs.Scenario.{release_of}
use Rattle.run_meaning.specs.declared.places.Place.{Place}
use Rattle.run_meaning.specs.Ready.{finish_of}
use Rattle.replay.specs.declared.queues.Arrival.{Arrival}
use Rattle.replay.specs.declared.queues.Readiness.{Readiness}
use Rattle.replay.specs.declared.queues.Urgency.{Urgency}

-- the earlier arrival is the greater
abbrev pub soonest_first : Reverse Arrival → Reverse Arrival → Ordering
soonest_first = flip_args (on (λ e. e.0) (then_cmp (on (λ e. e.time) nat_cmp) (on (λ e. e.no) nat_cmp)))

-- the more urgent is the greater
abbrev pub urgent_first : Reverse Urgency → Reverse Urgency → Ordering
urgent_first = flip_args (on (λ e. e.0) (then_cmp (on (λ e. e.rank) nat_cmp) (on (λ e. e.no) nat_cmp)))

-- The elements of the two heaps, and how far each job is from being ready.
pub record Queued : Type 0 where
  pub waiting : List (Reverse Urgency)
  pub later : List (Reverse Arrival)
  pub readiness : List Readiness

-- read only past the end
abbrev pub no_readiness : Readiness
no_readiness = record { missing = 0; time = 0 }

-- how many predecessors of job j are not dispatched
abbrev pub missing_of : List Readiness → ℕ → ℕ
missing_of readiness j = (slice_index_or readiness j no_readiness).missing

-- when job j is ready, as far as its release and its dispatched predecessors go
abbrev pub time_of : List Readiness → ℕ → ℕ
time_of readiness j = (slice_index_or readiness j no_readiness).time

-- how often job j is in the heaps
abbrev pub copies : Queued → ℕ → ℕ
copies queued j = count_by (λ e. e.0.no == j) queued.waiting + count_by (λ e. e.0.no == j) queued.later

-- job j is in neither heap, and waits for no other job
abbrev pub is_dispatched : Queued → ℕ → Bool
is_dispatched queued j = (copies queued j == 0) && (missing_of queued.readiness j == 0)

-- the urgency of job j
abbrev pub urgency_of : Table → ℕ → Urgency
urgency_of table j = record { rank = rank_of table j; no = j }

-- a job that waits for a core: it is ready by now
pub record IsWaiting (table : Table) (now : ℕ) (readiness : List Readiness) (e : Reverse Urgency) : Type 0 where
  pub is_job : e.0.no < length table.jobs
  pub key : e.0 ≡ urgency_of table e.0.no
  pub lacks_none : missing_of readiness e.0.no ≡ 0
  pub ready : time_of readiness e.0.no ≤ now

-- a job that waits for no other, with the time from which it is ready
pub record IsComing (table : Table) (readiness : List Readiness) (e : Reverse Arrival) : Type 0 where
  pub is_job : e.0.no < length table.jobs
  pub lacks_none : missing_of readiness e.0.no ≡ 0
  pub time : e.0.time ≡ time_of readiness e.0.no

-- No job is in the heaps twice, or while it waits for another, and those that wait for a core are ready by now.
pub record AreQueued (table : Table) (now : ℕ) (queued : Queued) : Type 0 where
  pub waits : All (IsWaiting table now queued.readiness) queued.waiting
  pub comes : All (IsComing table queued.readiness) queued.later
  pub once : (j : ℕ) → copies queued j ≤ 1

-- What each job lacks, where those that are done are dispatched to these places: so many predecessors, and it is not
-- ready before its release and the finishes of the others.
pub record AreCounted (table : Table) (scenario : List (ℕ × ℕ)) (done : ℕ → Bool) (schedule : List Place) (readiness : List Readiness) : Type 0 where
  pub missing : (j : ℕ) → j < length table.jobs → missing_of readiness j ≡ count_by (λ i. not (done i)) (predecessors table j)
  pub time : (j : ℕ) → j < length table.jobs → time_of readiness j ≡ greatest (release_of scenario j ∷ map (finish_of scenario schedule) (filter done (predecessors table j)))

-- All jobs are there: each lacks all its predecessors, and those that have none come when they are released.
pub record HasAll (table : Table) (scenario : List (ℕ × ℕ)) (queued : Queued) : Type 0 where
  pub none : (j : ℕ) → j < length table.jobs → is_dispatched queued j ≡ false
  pub missing : (j : ℕ) → j < length table.jobs → missing_of queued.readiness j ≡ length (predecessors table j)
  pub time : (j : ℕ) → j < length table.jobs → time_of queued.readiness j ≡ release_of scenario j
  pub queues : AreQueued table 0 queued

-- The same jobs are there after a move of those that are ready by now.
pub record StaysQueued (table : Table) (now : ℕ) (old new : Queued) : Type 0 where
  pub same : (j : ℕ) → copies new j ≡ copies old j
  pub readiness : new.readiness ≡ old.readiness
  pub kept : AreQueued table now old → AreQueued table now new

-- The first time from `from` on at which one of the jobs waits: now, where one does already.
pub record IsNextReady (queued : Queued) (from t : ℕ) : Type 0 where
  pub not_before : from ≤ t
  pub first : (t ≡ from) ⊎ ((queued.waiting ≡ []) × All (λ e. t ≤ e.0.time) queued.later)
  pub there : (0 < length queued.waiting) ⊎ ((e : Reverse Arrival) × Contains queued.later e × (e.0.time ≤ t))

-- This job is taken, and no other that waits is more urgent.
pub record TakesFirst (old new : Queued) (e : Urgency) : Type 0 where
  pub taken : IsPermutation old.waiting (record { 0 = e } ∷ new.waiting)
  pub later : new.later ≡ old.later
  pub readiness : new.readiness ≡ old.readiness
  pub first : IsUpperBound urgent_first (record { 0 = e }) new.waiting

-- what job j lacks when one more predecessor is dispatched, which finishes then
abbrev pub one_less : List Readiness → ℕ → ℕ → Readiness
one_less readiness finish j = record { missing = missing_of readiness j - 1; time = max (time_of readiness j) finish }

-- One more predecessor of job s is dispatched, and finishes then: where it was the last, the job comes when it is ready.
pub record Counts (old new : Queued) (finish s : ℕ) : Type 0 where
  pub waiting : new.waiting ≡ old.waiting
  pub readiness : new.readiness ≡ slice_set old.readiness s (one_less old.readiness finish s)
  pub later : MatchBool (missing_of old.readiness s == 1)
      (IsPermutation (record { 0 = record { time = max (time_of old.readiness s) finish; no = s } } ∷ old.later) new.later)
      (new.later ≡ old.later)

-- One predecessor less is missing to each of these jobs, and they are not ready before it finishes.
pub record Unblocks (table : Table) (old new : Queued) (finish : ℕ) (jobs : List ℕ) : Type 0 where
  pub missing : (j : ℕ) → missing_of new.readiness j + count_by (λ s. s == j) jobs ≡ missing_of old.readiness j
  pub time : (j : ℕ) → time_of new.readiness j ≡ (if count_by (λ s. s == j) jobs == 0 then time_of old.readiness j else max (time_of old.readiness j) finish)
  pub same : (j : ℕ) → is_dispatched new j ≡ is_dispatched old j
  pub kept : (now : ℕ) → AreQueued table now old → AreQueued table now new

-- Job j, which lacks no predecessor, has left the heaps, and the others are there as before.
pub record IsWithout (table : Table) (now : ℕ) (old new : Queued) (j : ℕ) : Type 0 where
  pub queues : AreQueued table now new
  pub readiness : new.readiness ≡ old.readiness
  pub gone : is_dispatched new j ≡ true
  pub others : (i : ℕ) → i ≢ j → is_dispatched new i ≡ is_dispatched old i
