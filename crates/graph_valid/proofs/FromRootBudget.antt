-- The budget of a graph.
--     Excess                      where a graph exceeds its budget: the level, the states and the edges at that moment
--     excess_at budget at offers  the first of the offers into a level after which there are too many
--     excess_after budget ..      of all offers of the next levels
--     excess table m budget       of the whole graph
use Rattle.std.specs.Prelude.{ℕ, zero, suc, Bool, ◌+◌, ◌*◌, ◌||◌, nat_lt, List, [], ◌∷◌, length, Option, Some, None, if◌then◌else◌}
use Rattle.job_model.specs.Table.{Table}
use Rattle.sag_step.specs.State.{SystemState, root}
use Rattle.sag_step.specs.Offers.{Offer, offers}
use Rattle.sag_step.specs.Group.{placed, group}

-- the level that an offer leads to, and how many states and edges there are after it
pub record Excess : Type 0 where
  pub level : ℕ
  pub states : ℕ
  pub edges : ℕ

-- more states than the budget, or more edges than 16 for each of them
abbrev pub is_over : ℕ → ℕ → ℕ → Bool
is_over budget states edges = nat_lt budget states || nat_lt (16 * budget) edges

-- The first of these offers after which there are too many, where `level` counts what there is below the level and its
-- edges so far, and `states` are the level's states so far.
abbrev pub excess_at : ℕ → Excess → List SystemState → List Offer → Option Excess
excess_at budget level states [] = None
excess_at budget level states (o ∷ offers) =
    if is_over budget (level.states + length (placed states o.next)) (level.edges + 1)
    then Some (record { level = level.level; states = level.states + length (placed states o.next); edges = level.edges + 1 })
    else excess_at budget (record level { edges = level.edges + 1 }) (placed states o.next) offers

-- the first excess, or else the second
abbrev pub first_excess : Option Excess → Option Excess → Option Excess
first_excess None later = later
first_excess (Some found) later = Some found

-- of the next n levels after these states, where `below` is the first of them with what there is below it
abbrev pub excess_after : Table → ℕ → Excess → ℕ → List SystemState → Option Excess
excess_after table budget below zero before = None
excess_after table budget below (suc n) before =
    first_excess (excess_at budget below [] (offers table before))
    (excess_after table budget
    (record { level = below.level + 1; states = below.states + length (group (offers table before)); edges = below.edges + length (offers table before) })
    n (group (offers table before)))

-- of the graph of a table on m cores: the root is its first state
abbrev pub excess : Table → ℕ → ℕ → Option Excess
excess table m budget = excess_after table budget (record { level = 1; states = 1; edges = 0 }) (length table.jobs) (root table m ∷ [])
