-- The levels of the schedule-abstraction graph.
--     Level                       the states of a level, and the edges into it
--     edge_to offer to            the edge of an offer that state number `to` took
--     edges_into states offers    the edges of the offers, which are placed one after another beside these states
--     next_level table states     the level that the offers of these states make
--     level_at table m k          level k: the root, or what the offers of the level before it make
use Rattle.std.specs.Prelude.{ℕ, zero, suc, List, [], ◌∷◌}
use Rattle.job_model.specs.Table.{Table}
use Rattle.sag_step.specs.State.{SystemState, root}
use Rattle.sag_step.specs.Offers.{Offer, offers}
use Rattle.sag_step.specs.Group.{placed, place_of, group}
use Rattle.sag_graph.specs.declared.edge.Edge.{Edge}

-- the states of a level, and the edges into it
pub record Level : Type 0 where
  pub states : List SystemState
  pub edges : List Edge

-- the edge of an offer that state number `to` took
abbrev pub edge_to : Offer → ℕ → Edge
edge_to o to = record { from = o.from; job = o.job; window = o.window; to = to }

-- Each offer is an edge to the state that takes it, among the states as they are when its turn comes.
abbrev pub edges_into : List SystemState → List Offer → List Edge
edges_into states [] = []
edges_into states (o ∷ offers) = edge_to o (place_of states o.next) ∷ edges_into (placed states o.next) offers

-- the level that the offers of these states make, and the edges into it
unfoldable pub next_level : Table → List SystemState → Level
next_level table states = record { states = group (offers table states); edges = edges_into [] (offers table states) }

-- Level 0 is the root. Each other level is made by the offers of the one before it.
unfoldable pub level_at : Table → ℕ → ℕ → Level
level_at table m zero = record { states = root table m ∷ []; edges = [] }
level_at table m (suc k) = next_level table (level_at table m k).states
