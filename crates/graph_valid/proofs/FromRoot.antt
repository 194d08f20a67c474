-- The graph of a table, as a recursion from the root on: what the lemmas go along.
--     founders states offers           the offers that no state so far takes: each appends a state
--     FoundedLevel                     a level above 0: its states, the offers that appended them, the edges into it
--     level_after table before         the level after these states
--     levels_after table n before      the next n levels after these states
--     levels table m                   all levels above 0
--     graph_edges table m              the edges of all levels
--     span_over table j edges          the least interval that covers those of the job's edges, if it has any
--     span_of, spans table m           when the jobs finish, by the graph
use Rattle.std.specs.Prelude.{ℕ, zero, suc, List, [], ◌∷◌, ◌==◌, length, map, flat_map, Option, Some, None, unwrap_or, if◌then◌else◌}
use Rattle.std.specs.List.{list_any}
use Rattle.std.specs.Option.{option_map_or}
use Rattle.lists.specs.Numbers.{numbers_below}
use Rattle.job_model.specs.Table.{Table}
use Rattle.sag_time.specs.Interval.{Interval, hull}
use Rattle.lists.specs.Zipped.{zip_with}
use Rattle.sag_step.specs.State.{SystemState, root}
use Rattle.sag_step.specs.Widen.{states_touch}
use Rattle.sag_graph.specs.declared.edge.Edge.{Edge}
use Rattle.sag_step.specs.Offers.{Offer, offers}
use Rattle.sag_step.specs.Group.{placed, group, places_of}
use Rattle.sag_graph.specs.Levels.{edge_to}
use Rattle.sag_graph.specs.Spans.{edge_finish}

-- the offers that touch none of the states so far: each of them appends a state
abbrev pub founders : List SystemState → List Offer → List Offer
founders states [] = []
founders states (o ∷ offers) =
    if list_any (λ s. states_touch s o.next) states
    then founders (placed states o.next) offers
    else o ∷ founders (placed states o.next) offers

-- a level above 0: its states, for each of them the offer that appended it, and the edges into the level
pub record FoundedLevel : Type 0 where
  pub states : List SystemState
  pub founders : List Offer
  pub edges : List Edge

-- the level after these states: the offers are grouped, and each is an edge to the state that takes it
abbrev pub level_after : Table → List SystemState → FoundedLevel
level_after table before = record {
  states = group (offers table before);
  founders = founders [] (offers table before);
  edges = zip_with edge_to (offers table before) (places_of [] (offers table before));
}

-- the next n levels after these states
abbrev pub levels_after : Table → ℕ → List SystemState → List FoundedLevel
levels_after table zero before = []
levels_after table (suc n) before = level_after table before ∷ levels_after table n (level_after table before).states

-- the levels above 0, one for each job
abbrev pub levels : Table → ℕ → List FoundedLevel
levels table m = levels_after table (length table.jobs) (root table m ∷ [])

-- the edges of these levels
abbrev pub edges_of : List FoundedLevel → List Edge
edges_of levels = flat_map (λ l. l.edges) levels

abbrev pub graph_edges : Table → ℕ → List Edge
graph_edges table m = edges_of (levels table m)

-- the hull of when the job finishes by these edges, if one of them is its own
abbrev pub span_over : Table → ℕ → List Edge → Option Interval
span_over table j [] = None
span_over table j (e ∷ edges) =
    if e.job == j
    then Some (option_map_or (hull (edge_finish table e)) (span_over table j edges) (edge_finish table e))
    else span_over table j edges

-- when the job finishes by the graph; each job has an edge
abbrev pub span_of : Table → List Edge → ℕ → Interval
span_of table edges j = unwrap_or (span_over table j edges) (record { lo = 0; hi = 0 })

abbrev pub spans : Table → ℕ → List Interval
spans table m = map (span_of table (graph_edges table m)) (numbers_below (length table.jobs))
