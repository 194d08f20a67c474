-- When the cores get free, by their numbers.
--     IsFirstFree free t             t is the earliest time at which a core is free
--     IsLowestBy free t core         the core is the lowest that is free by t
use Rattle.std.specs.Prelude.{◌≡◌, ℕ, List, ◌≤◌, ◌<◌, length, slice_index, EachIndex, SomeIndex}

-- a core is free from t on, and none before
abbrev pub IsFirstFree : List ℕ → ℕ → Type 0
IsFirstFree free t = SomeIndex free (λ core. slice_index free core ≡ t) × EachIndex free (λ core. t ≤ slice_index free core)

-- the core is the lowest that is free by t
pub record IsLowestBy (free : List ℕ) (t core : ℕ) : Type 0 where
  pub in_range : core < length free
  pub is_free : slice_index free core ≤ t
  pub lower_later : (c : ℕ) → c < core → t < slice_index free c
