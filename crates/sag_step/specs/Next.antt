-- The step from one system state to the next. As in Nasri, Nelissen and Brandenburg (ECRTS 2018 for jobs that are independent,
-- ECRTS 2019 with precedence): the possible and certain availabilities PA and CA after a job starts between EST and LST, and the
-- finish times of jobs that others wait for. What differs: the latest start LST of a job caps the certain availabilities of the
-- cores on which its predecessors surely are last, and the finish times of those; ECRTS 2019 uses sets of certainly running jobs.
--     finish_interval table j window         when job j finishes that starts in the window
--     last_predecessors table last j         how many predecessors of j are last on their cores
--     ended_by jobs moment e                 the intervals of these jobs end by that moment
--     cut_end, cut_ends table j lst ..       those of predecessors of j end by its latest start
--     still_tracked table set ends           the ends that are still of use once these jobs are dispatched
--     still_last table set ends last j lst   the jobs that are last on their cores once j has started
--     next table state j window              the state once job j has started in its window
use Rattle.std.specs.Prelude.{ℕ, Bool, ◌+◌, ◌<◌, List, filter, map, count_by, min, nat_lt, if◌then◌else◌}
use Rattle.std.specs.Ordering.{nat_cmp}
use Rattle.std.specs.BTreeMap.{insert_entry}
use Rattle.job_sets.specs.Subset.{is_member, with_number}
use Rattle.job_model.specs.Table.{Table, job_at, predecessors}
use Rattle.sag_time.specs.Interval.{Interval}
use Rattle.sag_time.specs.Sorted.{after_start, cap_first}
use Rattle.start_windows.specs.declared.StartWindow.{StartWindow}
use Rattle.start_windows.specs.Ends.{low_end}
use Rattle.sag_step.specs.State.{SystemState, is_tracked}

-- when job j finishes that starts in the window
abbrev pub finish_interval : Table → ℕ → StartWindow → Interval
finish_interval table j window = record { lo = window.est + (job_at table j).cmin; hi = window.lst + (job_at table j).cmax }

-- how many predecessors of j are last on their cores: so many cores are free when j starts
abbrev pub last_predecessors : Table → List ℕ → ℕ → ℕ
last_predecessors table last j = count_by (λ i. is_member i last) (predecessors table j)

-- the interval of one of these jobs ends by the moment
abbrev pub ended_by : List ℕ → ℕ → ℕ × Interval → ℕ × Interval
ended_by jobs moment e = (e.0, if is_member e.0 jobs then record { lo = e.1.lo; hi = min e.1.hi moment } else e.1)

-- a predecessor of j has finished by the latest start of j
abbrev pub cut_end : Table → ℕ → ℕ → ℕ × Interval → ℕ × Interval
cut_end table j lst e = ended_by (predecessors table j) lst e

abbrev pub cut_ends : Table → ℕ → ℕ → List (ℕ × Interval) → List (ℕ × Interval)
cut_ends table j lst ends = map (cut_end table j lst) ends

-- the ends that are still of use once these jobs are dispatched
abbrev pub still_tracked : Table → List ℕ → List (ℕ × Interval) → List (ℕ × Interval)
still_tracked table set ends = filter (λ e. is_tracked table set e.0) ends

-- job i certainly runs on after this moment
abbrev pub runs_past : List (ℕ × Interval) → ℕ → ℕ → Bool
runs_past ends lst i = nat_lt lst (low_end ends i)

-- Job j is last on its core. A job that certainly runs on after the latest start of j stays last on its own. Both are of
-- use as long as others wait for them.
abbrev pub still_last : Table → List ℕ → List (ℕ × Interval) → List ℕ → ℕ → ℕ → List ℕ
still_last table set ends last j lst = filter (is_tracked table set) (with_number j (filter (runs_past ends lst) last))

-- Job j takes the core that is free first. It is the next to start, so no core is free for another job before. The cores
-- on which its predecessors are last are free by its latest start.
abbrev pub next : Table → SystemState → ℕ → StartWindow → SystemState
next table state j window =
    let finish = finish_interval table j window in
    let set = with_number j state.set.members in
    record {
      set = record { size = state.set.size; members = set };
      low = after_start window.est finish.lo state.low;
      high = after_start window.est finish.hi (cap_first state.low (last_predecessors table state.last.members j) window.lst state.high);
      ends = still_tracked table set (insert_entry nat_cmp (cut_ends table j window.lst state.ends) j finish);
      last = record { size = state.last.size; members = still_last table set state.ends state.last.members j window.lst };
    }
