-- Closed intervals of whole numbers.
--     hull a b          the least interval that covers both
--     touches a b       whether they overlap, or one ends just before the other begins
--     covers a b        whether all of b is in a
--     holds a t         whether t is in a
use Rattle.std.specs.Prelude.{ℕ, Bool, ◌+◌, ◌&&◌, min, max, nat_le}

-- the whole numbers from lo to hi, both included
pub record Interval : Type 0 where
  pub lo : ℕ
  pub hi : ℕ

-- the least interval that covers both
abbrev pub hull : Interval → Interval → Interval
hull a b = record { lo = min a.lo b.lo; hi = max a.hi b.hi }

-- Whether they overlap or are neighbours: neither begins later than just after the end of the other.
abbrev pub touches : Interval → Interval → Bool
touches a b = nat_le a.lo (b.hi + 1) && nat_le b.lo (a.hi + 1)

-- whether all of b is in a
abbrev pub covers : Interval → Interval → Bool
covers a b = nat_le a.lo b.lo && nat_le b.hi a.hi

-- whether t is in a
abbrev pub holds : Interval → ℕ → Bool
holds a t = nat_le a.lo t && nat_le t a.hi
