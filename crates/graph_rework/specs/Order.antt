-- The order of a level of two classes of states: those that stay, and those that were made.
--     order_from p kept made states     what stands at each place: a state that stays (by p) or one that was made,
--                                       each counted within its class
--     ranks_from p n states             the number of each state among those before it that pass, counted from n
--     same_occupant a b                 both are one
--     joined x order                    the order with x in it: as it is where x is there, or x at the end
--     place_in_order x order            the place of x, or the length where it is not there
use Rattle.std.specs.Prelude.{ℕ, Bool, false, List, [], ◌∷◌, ◌+◌, ◌==◌, if◌then◌else◌}
use Rattle.std.specs.List.{position_or_len}
use Rattle.graph_rework.specs.declared.occupant.Occupant.{Occupant}
use Rattle.graph_rework.specs.declared.occupant.Occupant.TheVariants.{Stayed, Remade}

-- both are one
abbrev pub same_occupant : Occupant → Occupant → Bool
same_occupant (Stayed a) (Stayed b) = a == b
same_occupant (Stayed a) (Remade b) = false
same_occupant (Remade a) (Stayed b) = false
same_occupant (Remade a) (Remade b) = a == b

-- the order with x in it: as it is where x is there, and else x at the end
abbrev pub joined : Occupant → List Occupant → List Occupant
joined x [] = x ∷ []
joined x (y ∷ order) = if same_occupant y x then y ∷ order else y ∷ joined x order

-- the place of x, or the length where it is not there
abbrev pub place_in_order : Occupant → List Occupant → ℕ
place_in_order x order = position_or_len (λ y. same_occupant y x) order

-- what stands at each place: a state that stays by p, or one that does not, each counted within its class
abbrev pub order_from : {S : Type 0} → (S → Bool) → ℕ → ℕ → List S → List Occupant
order_from p kept made [] = []
order_from p kept made (s ∷ states) =
    if p s then Stayed kept ∷ order_from p (kept + 1) made states else Remade made ∷ order_from p kept (made + 1) states

-- the number of each state among those before it that pass
abbrev pub ranks_from : {S : Type 0} → (S → Bool) → ℕ → List S → List ℕ
ranks_from p n [] = []
ranks_from p n (s ∷ states) = n ∷ ranks_from p (if p s then n + 1 else n) states
