-- Jobs that wait although they need not.
--     Waits entries j t                 job j is ready at t, and starts later
--     IsIdle entries core t             no job runs on the core at t
--     SomeIsIdle entries m t            one of m cores is idle at t
--     PassesOver entries j t            a job starts at t that is not more urgent than j
--     IsUnheld entries m j t            job j waits at t, with an idle core or passed over
--     AreCoreEnds entries m done ends       when the cores are free, after the jobs that are done
--     IsLeastEnd ends t                the earliest time at which a core is free
--     FindsWaiter entries t found       the most urgent of those that wait at t, if any do
--     IsNextWaiting entries now t         from t on, and no sooner, a job is ready that starts after now
--     FindsUnheld entries m found       the first time at which a job waits although it need not, if there is one
--     FindsJob entries m t found        the first job, by number, that waits at t although it need not
--     Waiting                           the elements of a heap of waiting jobs, and how many jobs it has seen
--     HoldsBy entries order now w       it has seen so many jobs, which are ready by now, and holds those that start later
--     HasAllReady entries order now w      it has seen all that are ready by now
use Rattle.std.specs.Prelude.{◌≡◌, ℕ, List, [], ◌≤◌, ◌<◌, ◌⊎◌, All, Contains, Bool, EachIndex, IsTrue, Option, Some, None, SomeIndex, length, max, slice_index}
use Rattle.std.specs.declared.cmp.Ordering.{Ordering}
use Rattle.std.specs.declared.cmp.Reverse.{Reverse}
use Rattle.std.specs.Ordering.{flip_args, nat_cmp, on, then_cmp}
use Rattle.run_audit.specs.declared.entries.Entry.{Entry}
use Rattle.run_audit.specs.declared.waits.Waiter.{Waiter}
use Rattle.run_audit.specs.Entries.{core_at, finish_at, rank_at, ready_at, start_at}
use Rattle.run_audit.specs.Orders.{job_in, time_in}

-- a core is free from t on, and none before
abbrev pub IsLeastEnd : List ℕ → ℕ → Type 0
IsLeastEnd ends t = SomeIndex ends (λ core. slice_index ends core ≡ t) × EachIndex ends (λ core. t ≤ slice_index ends core)

-- the more urgent is the greater
abbrev pub most_urgent_first : Reverse Waiter → Reverse Waiter → Ordering
most_urgent_first = flip_args (on (λ e. e.0) (then_cmp (on (λ e. e.rank) nat_cmp) (on (λ e. e.no) nat_cmp)))

-- the elements of the heap, in no order, and how many jobs of an order were let in
pub record Waiting : Type 0 where
  pub waiting : List (Reverse Waiter)
  pub passed : ℕ

-- job j is among them
abbrev pub HasJob : List (Reverse Waiter) → ℕ → Type 0
HasJob waiting j = (e : Reverse Waiter) × Contains waiting e × (e.0.no ≡ j)

-- nothing was let in
pub record HoldsNone (w : Waiting) : Type 0 where
  pub none : w.waiting ≡ []
  pub first : w.passed ≡ 0

-- now, where a job waits already, or else the next time
abbrev pub next_of : Option ℕ → ℕ → Option ℕ → Option ℕ
next_of (Some j) now next = Some now
next_of None now next = next

-- the time of the next job that was not let in
abbrev pub IsNextTime : List (ℕ × ℕ) → ℕ → Option ℕ → Type 0
IsNextTime order passed None = length order ≤ passed
IsNextTime order passed (Some t) = (passed < length order) × (t ≡ time_in order passed)

-- the time from which a core is free and a job ready, if that is before the start
abbrev pub IsTimeBefore : ℕ → Option ℕ → ℕ → Option ℕ → Type 0
IsTimeBefore free next start None = (r : ℕ) → next ≡ Some r → start ≤ max free r
IsTimeBefore free next start (Some t) = (r : ℕ) × (next ≡ Some r) × (t ≡ max free r) × (t < start)

-- not above the greatest rank, if there is one
abbrev pub IsRankUpTo : Option ℕ → ℕ → Type 0
IsRankUpTo None rank = ⊥
IsRankUpTo (Some last) rank = rank ≤ last

-- the job of this entry waits at t, with a core that is idle or passed over
pub record IsHeldFree (entry : Entry) (t : ℕ) (idle : Bool) (last : Option ℕ) : Type 0 where
  pub ready : entry.ready ≤ t
  pub later : t < entry.start
  pub needless : IsTrue idle ⊎ IsRankUpTo last entry.rank

module _ (entries : List Entry) where
  -- one that waits is more urgent than job j
  abbrev pub IsPassed : Option ℕ → ℕ → Type 0
  IsPassed None j = ⊥
  IsPassed (Some other) j = rank_at entries other ≤ rank_at entries j

  abbrev pub Waits : ℕ → ℕ → Type 0
  Waits j t = (ready_at entries j ≤ t) × (t < start_at entries j)

  -- job i runs on the core in the slot from t on
  pub record RunsOn (core t i : ℕ) : Type 0 where
    pub is_job : i < length entries
    pub there : core_at entries i ≡ core
    pub started : start_at entries i ≤ t
    pub unfinished : t < finish_at entries i

  abbrev pub IsIdle : ℕ → ℕ → Type 0
  IsIdle core t = (i : ℕ) → ¬ RunsOn core t i

  pub record SomeIsIdle (m t : ℕ) : Type 0 where
    pub core : ℕ
    pub in_range : core < m
    pub idle : IsIdle core t

  pub record PassesOver (j t : ℕ) : Type 0 where
    pub by : ℕ
    pub is_job : by < length entries
    pub starts : start_at entries by ≡ t
    pub not_urgent : rank_at entries j ≤ rank_at entries by

  pub record IsUnheld (m j t : ℕ) : Type 0 where
    pub waits : Waits j t
    pub needless : SomeIsIdle m t ⊎ PassesOver j t

  -- For each core the greatest finish of the jobs there that are done, or 0.
  pub record AreCoreEnds (m : ℕ) (done : ℕ → Type 0) (ends : List ℕ) : Type 0 where
    pub each_core : length ends ≡ m
    pub last : (i : ℕ) → done i → core_at entries i < m → finish_at entries i ≤ slice_index ends (core_at entries i)
    pub there : (core : ℕ) → core < m → (slice_index ends core ≡ 0) ⊎ ((i : ℕ) × done i × (core_at entries i ≡ core) × (finish_at entries i ≡ slice_index ends core))

  pub record IsNextWaiting (now t : ℕ) : Type 0 where
    pub not_before : now ≤ t
    pub least : (j : ℕ) → j < length entries → now < start_at entries j → t ≤ max now (ready_at entries j)
    pub there : (j : ℕ) × (j < length entries) × (now < start_at entries j) × (ready_at entries j ≤ t)

  pub record IsFirstWaiter (t j : ℕ) : Type 0 where
    pub is_job : j < length entries
    pub waits : Waits j t
    pub first : (i : ℕ) → i < length entries → Waits i t → rank_at entries j ≤ rank_at entries i

  abbrev pub FindsWaiter : ℕ → Option ℕ → Type 0
  FindsWaiter t None = (j : ℕ) → j < length entries → ¬ Waits j t
  FindsWaiter t (Some j) = IsFirstWaiter t j

  pub record IsFirstUnheld (m t : ℕ) : Type 0 where
    pub there : (j : ℕ) × (j < length entries) × IsUnheld m j t
    pub first : (j u : ℕ) → j < length entries → u < t → ¬ IsUnheld m j u

  abbrev pub FindsUnheld : ℕ → Option ℕ → Type 0
  FindsUnheld m None = (j u : ℕ) → j < length entries → ¬ IsUnheld m j u
  FindsUnheld m (Some t) = IsFirstUnheld m t

  -- the greatest rank of the jobs that start at t, if any do
  abbrev pub IsLastStart : ℕ → Option ℕ → Type 0
  IsLastStart t None = (i : ℕ) → i < length entries → ¬ (start_at entries i ≡ t)
  IsLastStart t (Some rank) =
      ((i : ℕ) × (i < length entries) × (start_at entries i ≡ t) × (rank_at entries i ≡ rank))
      × ((i : ℕ) → i < length entries → start_at entries i ≡ t → rank_at entries i ≤ rank)

  pub record IsFirstJob (m t j : ℕ) : Type 0 where
    pub is_job : j < length entries
    pub there : IsUnheld m j t
    pub first : (i : ℕ) → i < j → ¬ IsUnheld m i t

  abbrev pub FindsJob : ℕ → ℕ → Option ℕ → Type 0
  FindsJob m t None = (j : ℕ) → j < length entries → ¬ IsUnheld m j t
  FindsJob m t (Some j) = IsFirstJob m t j

  -- an element of the heap: a job that is ready by now
  pub record IsWaiter (now : ℕ) (e : Reverse Waiter) : Type 0 where
    pub is_job : e.0.no < length entries
    pub rank : e.0.rank ≡ rank_at entries e.0.no
    pub ready : ready_at entries e.0.no ≤ now

  pub record HoldsBy (order : List (ℕ × ℕ)) (now : ℕ) (w : Waiting) : Type 0 where
    pub passed : w.passed ≤ length order
    pub ready : (k : ℕ) → k < w.passed → time_in order k ≤ now
    pub held : All (IsWaiter now) w.waiting
    pub all : (k : ℕ) → k < w.passed → now < start_at entries (job_in order k) → HasJob w.waiting (job_in order k)

  pub record HasAllReady (order : List (ℕ × ℕ)) (now : ℕ) (w : Waiting) : Type 0 where
    pub holds : HoldsBy order now w
    pub rest : (k : ℕ) → w.passed ≤ k → k < length order → now < time_in order k

  -- Some that have started are dropped, so that the first, if there is one, has not.
  pub record Drops (now : ℕ) (old new : Waiting) : Type 0 where
    pub passed : new.passed ≡ old.passed
    pub held : All (IsWaiter now) new.waiting
    pub kept : (j : ℕ) → HasJob old.waiting j → now < start_at entries j → HasJob new.waiting j

  -- the most urgent of the elements that start later
  pub record IsFirstIn (now : ℕ) (waiting : List (Reverse Waiter)) (j : ℕ) : Type 0 where
    pub is_job : j < length entries
    pub ready : ready_at entries j ≤ now
    pub later : now < start_at entries j
    pub first : (i : ℕ) → HasJob waiting i → now < start_at entries i → rank_at entries j ≤ rank_at entries i

  abbrev pub FindsIn : ℕ → List (Reverse Waiter) → Option ℕ → Type 0
  FindsIn now waiting None = (i : ℕ) → HasJob waiting i → ¬ (now < start_at entries i)
  FindsIn now waiting (Some j) = IsFirstIn now waiting j
