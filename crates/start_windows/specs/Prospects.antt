-- Windows by one number for each job, its cap: the first moment at which it may no longer start.
--     capped c xs              the least of c and the numbers
--     window_of est cap        from est on, and before the cap
--     cap_over, window_over, offer_over      the cap of j and its window, were xs the candidates
--     is_near table w x        whether x may be released by w
--     freed_by table ends j    when the predecessors of j have finished
--     prospect_of, AreProspects              what is looked up of candidates
--     IsByUrgency cs           each of the prospects is more urgent than all later ones
--     is_tied c                whether predecessors hold it up after its latest release
--     IsBehindOne held c       one of these waits for the same jobs as c, and is released no later
--     cap_behind               the cap of a job behind some that are more urgent
--     IsShuffle xs ys          the same numbers, as often, in any order
--     times_in xs j            how often j is in the list
--     may_lead sure r          whether a job of the rank r is no less urgent than one of the rank `sure`, if there is one
--     is_within table sure x   the same of the job x
--     kept_with, sure_with     a list with one more prospect, and the rank `sure` then
--     IsSure                   a job of that rank is certainly ready once a core is possibly free
--     Collected, Walked        what a walk over some jobs has collected
--     HoldNear                 jobs with all candidates that may be the next to start
use Rattle.std.specs.Prelude.{◌≡◌, ◌≤◌, ◌<◌, ℕ, suc, Bool, true, List, [], ◌∷◌, ◌++◌, ◌-◌, ◌==◌, length, min, max, nat_lt, nat_le, not, map, filter, All, IfSome, IsTrue, Option, Some, None, slice_index_or, if◌then◌else◌}
use Rattle.std.specs.List.{count_by, sum_by}
use Rattle.std.specs.Option.{option_map}
use Rattle.job_sets.specs.Subset.{is_rising}
use Rattle.lists.specs.Numbers.{greatest, least}
use Rattle.job_model.specs.Ranks.{rank_of}
use Rattle.job_model.specs.Table.{Table, job_at, has_urgency_over, predecessors}
use Rattle.sag_time.specs.Interval.{Interval}
use Rattle.start_windows.specs.declared.StartWindow.{StartWindow}
use Rattle.start_windows.specs.declared.eligibility.Freed.{Freed}
use Rattle.start_windows.specs.declared.eligibility.Prospect.{Prospect}
use Rattle.start_windows.specs.Ends.{high_end, low_end}
use Rattle.start_windows.specs.Window.{is_candidate, candidates, earliest_ready, latest_ready, earliest_start, ready_beside}

-- the least of c and the numbers
abbrev pub capped : ℕ → List ℕ → ℕ
capped c [] = c
capped c (x ∷ xs) = min x (capped c xs)

-- from est on, and before the cap
abbrev pub window_of : ℕ → ℕ → Option StartWindow
window_of est cap = if nat_lt est cap then Some (record { est = est; lst = cap - 1 }) else None

-- the moment before which j must start, were xs the candidates, one of which certainly starts by `certain`
abbrev pub cap_over : Table → List (ℕ × Interval) → ℕ → List ℕ → ℕ → ℕ
cap_over table ends certain xs j = capped (suc certain) (map (ready_beside table ends j) (filter (λ x. has_urgency_over table x j) xs))

-- the window of j then
abbrev pub window_over : Table → List (ℕ × Interval) → Interval → ℕ → List ℕ → ℕ → Option StartWindow
window_over table ends first certain xs j = window_of (earliest_start table ends first j) (cap_over table ends certain xs j)

-- j with its window
abbrev pub offer_over : Table → List (ℕ × Interval) → Interval → ℕ → List ℕ → ℕ → Option (ℕ × StartWindow)
offer_over table ends first certain xs j = option_map (λ w. (j, w)) (window_over table ends first certain xs j)

-- whether x may be released by w
abbrev pub is_near : Table → ℕ → ℕ → Bool
is_near table w x = nat_le (job_at table x).rmin w

-- when the last predecessor of j finishes, at the earliest and at the latest
abbrev pub freed_by : Table → List (ℕ × Interval) → ℕ → Freed
freed_by table ends j = record { low = greatest (map (low_end ends) (predecessors table j)); high = greatest (map (high_end ends) (predecessors table j)) }

-- what is looked up of a candidate
abbrev pub prospect_of : Table → List (ℕ × Interval) → ℕ → Prospect
prospect_of table ends j = record { job = j; rank = rank_of table j; earliest = earliest_ready table ends j; latest = latest_ready table ends j; released = (job_at table j).rmax; freed = freed_by table ends j }

-- jobs of the table, looked up
abbrev pub AreProspects : Table → List (ℕ × Interval) → List Prospect → Type 0
AreProspects table ends found = All (λ c. (c ≡ prospect_of table ends c.job) × (c.job < length table.jobs)) found

-- their numbers
abbrev pub jobs_of : List Prospect → List ℕ
jobs_of found = map (λ c. c.job) found

-- each of the prospects is more urgent than all later ones
abbrev pub IsByUrgency : List Prospect → Type 0
IsByUrgency found = IsTrue (is_rising (map (λ c. c.rank) found))

-- predecessors hold it up after its latest release
abbrev pub is_tied : Prospect → Bool
is_tied c = not (c.latest == c.released)

-- one of these waits for the same jobs, and is released no later
pub record IsBehindOne (table : Table) (held : List Prospect) (c : Prospect) : Type 0 where
  pub place : ℕ
  pub one : Prospect
  pub there : place < length held
  pub read : one ≡ slice_index_or held place one
  pub not_later : one.released ≤ c.released
  pub same : predecessors table one.job ≡ predecessors table c.job

-- The cap of j behind more urgent jobs: after `last` one of them is certainly ready, and these are the tied ones. A job
-- without predecessors shares none of theirs.
abbrev pub cap_behind : Table → List (ℕ × Interval) → ℕ → List ℕ → ℕ → ℕ
cap_behind table ends last tied j = if length (predecessors table j) == 0 then suc last else capped (suc last) (map (ready_beside table ends j) tied)

-- The same numbers, as often, in any order: each sum is the same.
pub record IsShuffle (xs ys : List ℕ) : Type 0 where
  pub sums : (f : ℕ → ℕ) → sum_by f xs ≡ sum_by f ys

-- how often j is in the list
abbrev pub times_in : List ℕ → ℕ → ℕ
times_in xs j = count_by (λ k. k == j) xs

-- a job of the rank r is no less urgent than one of the rank `sure`, if there is one
abbrev pub may_lead : Option ℕ → ℕ → Bool
may_lead None r = true
may_lead (Some u) r = nat_le r u

-- the same of the job x
abbrev pub is_within : Table → Option ℕ → ℕ → Bool
is_within table sure x = may_lead sure (rank_of table x)

-- the list with the prospect, if that may lead
abbrev pub kept_with : Option ℕ → Prospect → List Prospect → List Prospect
kept_with sure c found = if may_lead sure c.rank then found ++ c ∷ [] else found

-- the rank of the most urgent one that is certainly ready by then, with the prospect
abbrev pub sure_with : ℕ → Option ℕ → Prospect → Option ℕ
sure_with moment sure c = if may_lead sure c.rank then (if nat_le c.latest moment then Some c.rank else sure) else sure

-- A job of the rank u is in both lists, and certainly ready once a core is possibly free.
pub record IsSure (table : Table) (ends : List (ℕ × Interval)) (first : Interval) (among kept : List ℕ) (u : ℕ) : Type 0 where
  pub job : ℕ
  pub rank_is : rank_of table job ≡ u
  pub is_among : 1 ≤ times_in among job
  pub is_kept : 1 ≤ times_in kept job
  pub early : latest_ready table ends job ≤ first.lo

-- Of the jobs seen: the first moment at which a candidate is certainly ready, and the candidates but for some that are
-- released too late to matter, or are less urgent than one that is certainly ready once a core is possibly free.
pub record Collected (table : Table) (set : List ℕ) (ends : List (ℕ × Interval)) (first : Interval) (sure : Option ℕ) (seen kept : List ℕ) (ready : Option ℕ) : Type 0 where
  pub ready_is : ready ≡ least (map (latest_ready table ends) (filter (is_candidate table set) seen))
  pub same_near : (w : ℕ) → IfSome ready (λ t. w ≤ max first.hi t) → filter (is_near table w) (filter (is_within table sure) kept) ≡ filter (is_near table w) (filter (is_within table sure) (filter (is_candidate table set) seen))
  pub once : (j : ℕ) → times_in kept j ≤ times_in seen j
  pub cut : IfSome sure (IsSure table ends first (filter (is_candidate table set) seen) kept)

-- The same for some rank.
pub record Walked (table : Table) (set : List ℕ) (ends : List (ℕ × Interval)) (first : Interval) (seen kept : List ℕ) (ready : Option ℕ) : Type 0 where
  pub sure : Option ℕ
  pub collected : Collected table set ends first sure seen kept ready

-- All candidates that may be released by w are kept, but for those less urgent than one that is certainly ready once a
-- core is possibly free.
pub record HoldNear (table : Table) (set : List ℕ) (ends : List (ℕ × Interval)) (first : Interval) (w : ℕ) (kept : List ℕ) : Type 0 where
  pub sure : Option ℕ
  pub same : IsShuffle (filter (is_near table w) (filter (is_within table sure) kept)) (filter (is_near table w) (filter (is_within table sure) (candidates table set)))
  pub cut : IfSome sure (IsSure table ends first (candidates table set) kept)
