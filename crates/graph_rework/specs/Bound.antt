-- Which edges an edit of job e makes anew, and which stay.
--     is_reworked e states edge          the edge starts job e, or leaves a state that has it
--     edges_reworked e states edges      how many of the edges
--     links_reworked e states links      the same of edges by the states that they leave
--     ranked_edge froms tos edge         the edge from and to states by their ranks
--     staying_edges e states level       the edges into the level that are not made anew, by ranks among the states that stay
use Rattle.std.specs.Prelude.{ℕ, Bool, List, [], ◌∷◌, ◌+◌, ◌==◌, ◌||◌, not, length, count_by, filter, map, slice_index, slice_index_or, if◌then◌else◌}
use Rattle.sag_step.specs.State.{SystemState}
use Rattle.sag_graph.specs.declared.edge.Edge.{Edge}
use Rattle.sag_graph.specs.Levels.{Level}
use Rattle.graph_rework.specs.declared.link.Link.{Link}
use Rattle.graph_rework.specs.Edit.{stays}
use Rattle.graph_rework.specs.Order.{ranks_from}
use Rattle.graph_rework.specs.Remake.{no_state}

-- the edge starts job e, or leaves a state in which it has started
abbrev pub is_reworked : ℕ → List SystemState → Edge → Bool
is_reworked e states edge = (edge.job == e) || not (stays e (slice_index_or states edge.from no_state))

-- how many of the edges are made anew, out of these states
abbrev pub edges_reworked : ℕ → List SystemState → List Edge → ℕ
edges_reworked e states edges = count_by (is_reworked e states) edges

-- of one state: the edge by job e, or all where the state has it
abbrev pub own_reworked : ℕ → SystemState → List Link → ℕ
own_reworked e state links = if stays e state then count_by (λ l. l.job == e) links else length links

-- the same of all states
abbrev pub links_reworked : ℕ → List SystemState → List (List Link) → ℕ
links_reworked e [] links = 0
links_reworked e (s ∷ states) [] = 0
links_reworked e (s ∷ states) (l ∷ links) = own_reworked e s l + links_reworked e states links

-- the edge from and to states by their ranks
abbrev pub ranked_edge : List ℕ → List ℕ → Edge → Edge
ranked_edge froms tos edge = record { from = slice_index froms edge.from; job = edge.job; window = edge.window; to = slice_index tos edge.to }

-- The edges into the level, out of these states, that are not made anew. Both ends are counted among the states that stay.
abbrev pub staying_edges : ℕ → List SystemState → Level → List Edge
staying_edges e states level =
    map (ranked_edge (ranks_from (stays e) 0 states) (ranks_from (stays e) 0 level.states)) (filter (λ edge. not (is_reworked e states edge)) level.edges)
