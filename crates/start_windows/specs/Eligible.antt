-- All jobs that may be the next to start, and where the jobs begin that are not dispatched.
--     eligible_windows            each such job with its window, by rising number
--     leading_members set order   how many first jobs of an order are in the set
--     front_of table set          the same of the order of release
--     IsFront table set front     so many first jobs of the order of release, or more, are in the set
use Rattle.std.specs.Prelude.{◌≡◌, ◌<◌, ◌≤◌, ℕ, suc, true, List, [], ◌∷◌, length, Option, slice_index_or, if◌then◌else◌}
use Rattle.std.specs.List.{filter_map}
use Rattle.std.specs.Option.{option_map}
use Rattle.job_sets.specs.Subset.{is_member}
use Rattle.lists.specs.Numbers.{numbers_below}
use Rattle.job_model.specs.Releases.{release_order}
use Rattle.job_model.specs.Table.{Table}
use Rattle.sag_time.specs.Interval.{Interval}
use Rattle.start_windows.specs.declared.StartWindow.{StartWindow}
use Rattle.start_windows.specs.Window.{start_window}

-- the job with its window, if it has one
abbrev pub with_window : Table → List ℕ → List (ℕ × Interval) → Interval → ℕ → Option (ℕ × StartWindow)
with_window table set ends first j = option_map (λ w. (j, w)) (start_window table set ends first j)

-- each job that may be the next to start, with its window, by rising number
abbrev pub eligible_windows : Table → List ℕ → List (ℕ × Interval) → Interval → List (ℕ × StartWindow)
eligible_windows table set ends first = filter_map (with_window table set ends first) (numbers_below (length table.jobs))

-- how many first jobs of the order are in the set: each entry has a release and a job
abbrev pub leading_members : List ℕ → List (ℕ × ℕ) → ℕ
leading_members set [] = 0
leading_members set (e ∷ order) = if is_member e.1 set then suc (leading_members set order) else 0

-- how many first jobs of the order of release are in the set
abbrev pub front_of : Table → List ℕ → ℕ
front_of table set = leading_members set (release_order table)

-- A place in the order of release: each job before it is in the set.
pub record IsFront (table : Table) (set : List ℕ) (front : ℕ) : Type 0 where
  pub in_order : front ≤ length table.jobs
  pub passed : (k : ℕ) → k < front → is_member (slice_index_or (release_order table) k (0, 0)).1 set ≡ true
