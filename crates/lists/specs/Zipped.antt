-- Two lists beside each other.
--     zip_with f xs ys      what f makes of the two items at each place
use Rattle.std.specs.Prelude.{List, [], ◌∷◌}

-- what f makes of what the two lists have at each place, up to the end of the shorter
abbrev pub zip_with : {A B C : Type 0} → (A → B → C) → List A → List B → List C
zip_with f [] ys = []
zip_with f (x ∷ xs) [] = []
zip_with f (x ∷ xs) (y ∷ ys) = f x y ∷ zip_with f xs ys
