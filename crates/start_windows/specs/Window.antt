-- When a job may start next. `set` has the dispatched jobs, `ends` the finish times of those that others wait for,
-- and `first` the moments from which a core is possibly and from which one is certainly free. As the eligibility condition of
-- Nasri, Nelissen and Brandenburg (ECRTS 2018 and 2019; on one core Nasri and Brandenburg, RTSS 2017): EST, LST, t_wc and t_high.
-- What differs: a more urgent job that shares predecessors with j counts as ready once those that are its own have finished.
--     is_candidate table set j             j is not dispatched, and all its predecessors are
--     candidates table set                 the candidates, in rising order
--     earliest_ready, latest_ready         when j is ready at the earliest, and at the latest
--     earliest_start                       no earlier start of j is possible
--     certain_start                        by then some candidate certainly starts
--     overtaken_from table set ends j      from then on a more urgent job is certainly there, if any may be
--     start_window                         the window of j, if it may be the next to start
use Rattle.std.specs.Prelude.{ℕ, Bool, true, List, ◌∷◌, ◌-◌, ◌&&◌, min, max, not, nat_lt, nat_le, length, map, filter, Option, Some, None, unwrap_or, if◌then◌else◌}
use Rattle.std.specs.List.{list_all}
use Rattle.job_sets.specs.Subset.{is_member}
use Rattle.lists.specs.Numbers.{greatest, least, numbers_below}
use Rattle.job_model.specs.Table.{Table, job_at, predecessors, has_urgency_over}
use Rattle.sag_time.specs.Interval.{Interval}
use Rattle.start_windows.specs.declared.StartWindow.{StartWindow}
use Rattle.start_windows.specs.Ends.{low_end, high_end}

-- an undispatched job whose predecessors are all dispatched
abbrev pub is_candidate : Table → List ℕ → ℕ → Bool
is_candidate table set j = nat_lt j (length table.jobs) && not (is_member j set) && list_all (λ i. is_member i set) (predecessors table j)

-- all of them, by rising number
abbrev pub candidates : Table → List ℕ → List ℕ
candidates table set = filter (is_candidate table set) (numbers_below (length table.jobs))

-- R^min: the greatest of the earliest release and the earliest finishes of the predecessors
abbrev pub earliest_ready : Table → List (ℕ × Interval) → ℕ → ℕ
earliest_ready table ends j = greatest ((job_at table j).rmin ∷ map (low_end ends) (predecessors table j))

-- R^max: the greatest of the latest release and the latest finishes of the predecessors
abbrev pub latest_ready : Table → List (ℕ × Interval) → ℕ → ℕ
latest_ready table ends j = greatest ((job_at table j).rmax ∷ map (high_end ends) (predecessors table j))

-- EST: the job is possibly ready, and a core is possibly free
abbrev pub earliest_start : Table → List (ℕ × Interval) → Interval → ℕ → ℕ
earliest_start table ends first j = max (earliest_ready table ends j) first.lo

-- t_wc: a core is certainly free, and some candidate certainly ready
abbrev pub certain_start : Table → List ℕ → List (ℕ × Interval) → Interval → ℕ
certain_start table set ends first = max first.hi (unwrap_or (least (map (latest_ready table ends) (candidates table set))) 0)

-- When x is certainly ready once j is: its predecessors that are also j's have finished by then.
abbrev pub ready_beside : Table → List (ℕ × Interval) → ℕ → ℕ → ℕ
ready_beside table ends j x = greatest ((job_at table x).rmax ∷ map (high_end ends) (filter (λ i. not (is_member i (predecessors table j))) (predecessors table x)))

-- t_high: the least of these moments over the more urgent candidates, if there are any
abbrev pub overtaken_from : Table → List ℕ → List (ℕ × Interval) → ℕ → Option ℕ
overtaken_from table set ends j = least (map (ready_beside table ends j) (filter (λ x. has_urgency_over table x j) (candidates table set)))

-- t is before the limit, if there is one
abbrev pub is_before : ℕ → Option ℕ → Bool
is_before t None = true
is_before t (Some limit) = nat_lt t limit

-- the last moment up to t and before the limit, if there is one
abbrev pub last_before : Option ℕ → ℕ → ℕ
last_before None t = t
last_before (Some limit) t = min t (limit - 1)

-- The job starts no later than some candidate certainly does, and before a more urgent one certainly is there.
abbrev pub start_window : Table → List ℕ → List (ℕ × Interval) → Interval → ℕ → Option StartWindow
start_window table set ends first j =
    let est = earliest_start table ends first j in
    let certain = certain_start table set ends first in
    let limit = overtaken_from table set ends j in
    if is_candidate table set j && nat_le est certain && is_before est limit
    then Some (record { est = est; lst = last_before limit certain })
    else None
