-- Sorted lists of times, as the moments from which the cores are free: the first core to be free comes first.
--     is_sorted xs               no number is greater than a later one
--     sorted_with x xs           the sorted list xs, and x in its order
--     after_start floor end xs   from when the cores are free after a job took the first of them until end
--     cap_first low n cap xs     the list once n cores are free by cap: its first n numbers are no greater
use Rattle.std.specs.Prelude.{ℕ, zero, suc, Bool, true, List, [], ◌∷◌, ◌&&◌, max, min, nat_le, drop, map, if◌then◌else◌}
use Rattle.std.specs.List.{list_all}

-- no number is greater than a later one
abbrev pub is_sorted : List ℕ → Bool
is_sorted [] = true
is_sorted (x ∷ xs) = list_all (nat_le x) xs && is_sorted xs

-- the sorted list, and x in its order
abbrev pub sorted_with : ℕ → List ℕ → List ℕ
sorted_with x [] = x ∷ []
sorted_with x (y ∷ ys) = if nat_le x y then x ∷ y ∷ ys else y ∷ sorted_with x ys

-- The first core is taken until end. No other counts as free before floor.
abbrev pub after_start : ℕ → ℕ → List ℕ → List ℕ
after_start floor end xs = sorted_with end (map (max floor) (drop 1 xs))

-- Each of the first n numbers becomes the greater of its fellow in low and the smaller of itself and cap.
abbrev pub cap_first : List ℕ → ℕ → ℕ → List ℕ → List ℕ
cap_first low n cap [] = []
cap_first [] n cap (x ∷ xs) = x ∷ xs
cap_first (l ∷ low) zero cap (x ∷ xs) = x ∷ xs
cap_first (l ∷ low) (suc n) cap (x ∷ xs) = max l (min x cap) ∷ cap_first low n cap xs
