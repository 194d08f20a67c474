-- States of one set beside each other.
--     same_set a b          the sets have the same members
--     states_touch a b      the sets are equal, and the intervals of availability touch at each place
--     end_hull e f          the hull of two intervals of one job
--     state_hull a b        the least state that widens both, where the sets are equal
--     end_covers e f        of one job, and all of the second interval is in the first
--     widens a b            the sets are equal, and all that is possible by b is possible by a
--     AreComparable a b     states for which the code answers these tests: any two that are shaped for one table
use Rattle.std.specs.Prelude.{◌≡◌, ℕ, IsTrue, length, Bool, List, ◌&&◌, ◌==◌, min, max, nat_eq, nat_le}
use Rattle.std.specs.Map.{keys_of}
use Rattle.std.specs.Cmp.Lexicographic.{pointwise}
use Rattle.job_sets.specs.Subset.{Subset, common, is_within}
use Rattle.sag_time.specs.Interval.{Interval, hull, covers, touches}
use Rattle.lists.specs.Zipped.{zip_with}
use Rattle.sag_step.specs.State.{SystemState}

-- the same jobs are dispatched
abbrev pub same_set : Subset → Subset → Bool
same_set a b = pointwise nat_eq a.members b.members

-- from when on x cores are possibly free to when on they certainly are, at place x - 1
abbrev pub core_intervals : SystemState → List Interval
core_intervals state = zip_with (λ lo hi. record { lo = lo; hi = hi }) state.low state.high

-- At each place the two states leave no gap between them.
abbrev pub states_touch : SystemState → SystemState → Bool
states_touch a b = same_set a.set b.set && pointwise touches (core_intervals a) (core_intervals b)

-- of one job
abbrev pub end_hull : ℕ × Interval → ℕ × Interval → ℕ × Interval
end_hull e f = (e.0, hull e.1 f.1)

-- of two states of one set, whose ends list the same jobs
abbrev pub state_hull : SystemState → SystemState → SystemState
state_hull a b = record {
  set = a.set;
  low = zip_with min a.low b.low;
  high = zip_with max a.high b.high;
  ends = zip_with end_hull a.ends b.ends;
  last = record { size = a.last.size; members = common a.last.members b.last.members };
}

-- the same job, and all of the second interval is in the first
abbrev pub end_covers : ℕ × Interval → ℕ × Interval → Bool
end_covers e f = (e.0 == f.0) && covers e.1 f.1

-- The sets are equal, each interval of b, of availability or of an end, is in that of a, and each job that is last on its
-- core by a is so by b.
abbrev pub widens : SystemState → SystemState → Bool
widens a b =
    same_set a.set b.set && pointwise nat_le a.low b.low && pointwise nat_le b.high a.high && pointwise end_covers a.ends b.ends
    && is_within a.last.members b.last.members

-- Intervals are in order, there is one number of jobs and of cores, and states of one set track the same jobs.
pub record AreComparable (a b : SystemState) : Type 0 where
  pub first_in_order : IsTrue (pointwise nat_le a.low a.high)
  pub second_in_order : IsTrue (pointwise nat_le b.low b.high)
  pub one_size : a.set.size ≡ b.set.size
  pub one_count : length a.low ≡ length b.low
  pub same_ends : IsTrue (same_set a.set b.set) → keys_of a.ends ≡ keys_of b.ends
