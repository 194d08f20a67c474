-- The states of a set among those of a level.
--     is_set a b                   the sets are one: of one size, with the same members
--     numbers_from i set sets      the places at which the set stands, counted from i
--     sets_of states               the sets of the states
--     numbers_of set states        the numbers of the states of the set, rising
use Rattle.std.specs.Prelude.{ℕ, Bool, ◌+◌, List, [], ◌∷◌, ◌&&◌, ◌==◌, map, nat_eq, if◌then◌else◌}
use Rattle.std.specs.Cmp.Lexicographic.{pointwise}
use Rattle.job_sets.specs.Subset.{Subset}
use Rattle.sag_step.specs.State.{SystemState}

-- of one size, with the same members
abbrev pub is_set : Subset → Subset → Bool
is_set a b = (a.size == b.size) && pointwise nat_eq a.members b.members

-- the places at which the set stands, where the first is i
abbrev pub numbers_from : ℕ → Subset → List Subset → List ℕ
numbers_from i set [] = []
numbers_from i set (s ∷ sets) = if is_set set s then i ∷ numbers_from (i + 1) set sets else numbers_from (i + 1) set sets

-- the sets of the states
abbrev pub sets_of : List SystemState → List Subset
sets_of states = map (λ s. s.set) states

-- the numbers of the states of the set, rising
unfoldable pub numbers_of : Subset → List SystemState → List ℕ
numbers_of set states = numbers_from 0 set (sets_of states)
