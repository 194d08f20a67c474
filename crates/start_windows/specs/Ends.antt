-- When jobs finish: intervals by job number.
--     end_of ends j         the interval of job j, if it is listed
--     low_end ends j, high_end ends j      its ends, or 0 where it is not listed
--     is_above j ends       whether j is above all numbers of the list
--     HeldEnds              such a list in memory, and for how many items there is room
--     with_end held j span  the list with one more item, and room for it
--     IsEnds held           what such a list keeps
use Rattle.std.specs.Prelude.{ℕ, Bool, List, [], ◌∷◌, ◌++◌, ◌+◌, ◌≤◌, ◌<◌, ◌^◌, length, max, nat_eq, nat_le, nat_lt, Option, IsTrue}
use Rattle.std.specs.List.{list_all}
use Rattle.std.specs.Map.{keys_of, lookup}
use Rattle.std.specs.Option.{option_map_or}
use Rattle.job_sets.specs.Subset.{is_rising}
use Rattle.sag_time.specs.Interval.{Interval}

-- the interval of job j, if it is listed
abbrev pub end_of : List (ℕ × Interval) → ℕ → Option Interval
end_of ends j = lookup (nat_eq j) ends

-- when job j finishes at the earliest, or 0 where it is not listed
abbrev pub low_end : List (ℕ × Interval) → ℕ → ℕ
low_end ends j = option_map_or (λ s. s.lo) (end_of ends j) 0

-- when job j finishes at the latest, or 0 where it is not listed
abbrev pub high_end : List (ℕ × Interval) → ℕ → ℕ
high_end ends j = option_map_or (λ s. s.hi) (end_of ends j) 0

-- j is above all numbers of the list
abbrev pub is_above : ℕ → List (ℕ × Interval) → Bool
is_above j ends = list_all (λ i. nat_lt i j) (keys_of ends)

-- jobs and their intervals, and the number of items that the list can hold without memory
pub record HeldEnds : Type 0 where
  pub items : List (ℕ × Interval)
  pub room : ℕ

-- one more item, and no more room than it needs
abbrev pub with_end : HeldEnds → ℕ → Interval → HeldEnds
with_end held j span = record { items = held.items ++ (j, span) ∷ []; room = max held.room (length held.items + 1) }

-- The numbers rise, no interval ends before it begins, and there is room for all items, in a number of 16 bits.
pub record IsEnds (held : HeldEnds) : Type 0 where
  pub rising : IsTrue (is_rising (keys_of held.items))
  pub spans : IsTrue (list_all (λ e. nat_le e.1.lo e.1.hi) held.items)
  pub in_room : length held.items ≤ held.room
  pub room_fits : held.room < 2 ^ 16
