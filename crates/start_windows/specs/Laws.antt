-- Laws of windows.
--     SomeJobIsEligible          some job may be the next to start, where one is left
--     FrontsAreHandedDown        a front serves on when one job more is dispatched
use Rattle.std.specs.Prelude.{◌≡◌, ℕ, false, List, ◌<◌, ◌≤◌, length, nat_le, IsSome, IsTrue}
use Rattle.std.specs.List.{list_all}
use Rattle.job_sets.specs.Subset.{is_member, with_number}
use Rattle.job_model.specs.Table.{Table, IsTable}
use Rattle.sag_time.specs.Interval.{Interval}
use Rattle.start_windows.specs.Eligible.{IsFront}
use Rattle.start_windows.specs.Window.{start_window}

-- Where some job is not dispatched, some job may be the next to start.
abbrev pub SomeJobIsEligible : Type 0
SomeJobIsEligible =
    (table : Table) (set : List ℕ) (ends : List (ℕ × Interval)) (first : Interval) → IsTable table →
    first.lo ≤ first.hi → IsTrue (list_all (λ e. nat_le e.1.lo e.1.hi) ends) →
    (j : ℕ) → j < length table.jobs → is_member j set ≡ false →
    (k : ℕ) × (k < length table.jobs) × IsSome (start_window table set ends first k)

-- The first place is a front of each set, and a front of a set is one of the set with a number more.
pub record FrontsAreHandedDown : Type 0 where
  pub start : (table : Table) (set : List ℕ) → IsFront table set 0
  pub kept : (table : Table) (set : List ℕ) (front j : ℕ) → IsFront table set front → IsFront table (with_number j set) front
