-- The totals of states and edges after each offer, by the edges alone.
--     totals_by before count edges     the totals after each edge into a level, of which there are so many states so far
use Rattle.std.specs.Prelude.{ℕ, List, [], ◌∷◌, ◌+◌, max}
use Rattle.sag_graph.specs.declared.edge.Edge.{Edge}
use Rattle.sag_graph.specs.Budget.{Spending}

-- The totals after each edge into a level, of which there are so many states so far. `before` are the totals without the states
-- of this level, and with the edges so far. A state that is appended has the next number.
abbrev pub totals_by : Spending → ℕ → List Edge → List Spending
totals_by before count [] = []
totals_by before count (e ∷ edges) =
    record { level = before.level; states = before.states + max count (e.to + 1); edges = before.edges + 1 }
    ∷ totals_by (record { level = before.level; states = before.states; edges = before.edges + 1 }) (max count (e.to + 1)) edges
