-- The ends of a list of numbers.
--     greatest xs         the greatest number of the list, or 0 of none
--     least xs            the least number of the list, if there is one
--     numbers_below n     0, 1 .. up to n - 1
use Rattle.std.specs.Prelude.{ℕ, List, [], ◌∷◌, min, max, Option, Some, None}
use Rattle.std.specs.Option.{option_map_or}
use Rattle.std.specs.List.{range_with_len}

-- the greatest number of the list, or 0 where it has none
abbrev pub greatest : List ℕ → ℕ
greatest [] = 0
greatest (x ∷ xs) = max x (greatest xs)

-- the least number of the list, if there is one
abbrev pub least : List ℕ → Option ℕ
least [] = None
least (x ∷ xs) = Some (option_map_or (λ y. min x y) (least xs) x)

-- the numbers from 0 up to n
abbrev pub numbers_below : ℕ → List ℕ
numbers_below n = range_with_len 0 n
