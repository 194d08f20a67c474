-- Graphs in memory.
--     level_in graph k                        level k of a graph
--     IsStepBetween table before after e      the edge is a step between two levels
--     EdgesAreSteps                           so is each edge of the graph of a table
--     AddsJob count before after e            the edge leads from a state of one level to one of the next, and adds its job
--     states_in, edges_in graph               how many states and edges a graph has
--     has_edge_of graph j                     it has an edge of job j
--     FitsLines level                         the numbers and lengths of its states and edges are in the grammar's ranges
--     IsHeldGraph graph                       what each graph in memory keeps
--     GraphsAreHeld                           the graph of a table up to a level, within a budget, keeps it
use Rattle.std.specs.Prelude.{◌≡◌, ℕ, suc, Bool, [], ◌==◌, ◌+◌, ◌*◌, ◌<◌, ◌≤◌, ◌↔◌, Some, None, find, flat_map, length, slice_get, slice_index_or, sum_by, IsSome, IsTrue}
use Rattle.std.specs.List.{AllByRecursion, list_any}
use Rattle.job_sets.specs.Subset.{with_number}
use Rattle.job_model.specs.declared.limits.TheConstants.{MOST_CORES, MOST_JOBS}
use Rattle.job_model.specs.Table.{Table, IsTable}
use Rattle.sag_step.specs.State.{SystemState, state_window}
use Rattle.cert_text.specs.Grammar.{most_number}
use Rattle.sag_graph.specs.declared.TheConstants.{MOST_BUDGET}
use Rattle.sag_graph.specs.declared.edge.Edge.{Edge}
use Rattle.sag_graph.specs.Levels.{Level, level_at}
use Rattle.sag_graph.specs.Graph.{AbstractionGraph, graph_up_to}
use Rattle.sag_graph.specs.Budget.{edge_total, state_total}
use Rattle.graph_builder.specs.Filling.{no_level}
use Rattle.graph_builder.specs.Writing.{IsSpanUpTo, IsTimed, IsWritable}

-- level k of a graph, or an empty one past the last
abbrev pub level_in : AbstractionGraph → ℕ → Level
level_in graph k = slice_index_or graph.levels k no_level

-- The edge leads from a state of the level before to one of the level after: its job may start there in its window, and
-- is added to the dispatched jobs.
pub record IsStepBetween (table : Table) (before after : Level) (e : Edge) : Type 0 where
  pub source : SystemState
  pub target : SystemState
  pub from_there : slice_get before.states e.from ≡ Some source
  pub to_there : slice_get after.states e.to ≡ Some target
  pub window : state_window table source e.job ≡ Some e.window
  pub adds : target.set.members ≡ with_number e.job source.set.members

-- Each edge into level k + 1 is a step from level k.
abbrev pub EdgesAreSteps : Type 0
EdgesAreSteps =
    (table : Table) (m k : ℕ) → AllByRecursion (IsStepBetween table (level_at table m k) (level_at table m (suc k))) (level_at table m (suc k)).edges

-- The edge leads from a state that is there to one that is there, and adds its job, which is one of so many.
pub record AddsJob (count : ℕ) (before after : Level) (e : Edge) : Type 0 where
  pub of_job : e.job < count
  pub source : SystemState
  pub target : SystemState
  pub from_there : slice_get before.states e.from ≡ Some source
  pub to_there : slice_get after.states e.to ≡ Some target
  pub adds : target.set.members ≡ with_number e.job source.set.members

-- how many states a graph has
abbrev pub states_in : AbstractionGraph → ℕ
states_in graph = sum_by (λ l. length l.states) graph.levels

-- how many edges it has
abbrev pub edges_in : AbstractionGraph → ℕ
edges_in graph = sum_by (λ l. length l.edges) graph.levels

-- some edge of the graph is of job j
abbrev pub has_edge_of : AbstractionGraph → ℕ → Bool
has_edge_of graph j = list_any (λ e. e.job == j) (flat_map (λ l. l.edges) graph.levels)

-- a line can be made of each of its states and edges
pub record FitsLines (level : Level) : Type 0 where
  pub states : AllByRecursion IsWritable level.states
  pub edges : AllByRecursion IsTimed level.edges

-- Each edge leads from one level to the next, names states that are there, and adds its job. Each state above level 0 has
-- an edge into it. A job has a span exactly where it has an edge. All numbers and lengths are in the grammar's ranges.
pub record IsHeldGraph (graph : AbstractionGraph) : Type 0 where
  pub some_core : 1 ≤ graph.cores
  pub few_cores : graph.cores ≤ MOST_CORES
  pub few_jobs : length graph.spans ≤ MOST_JOBS
  pub some_level : 1 ≤ length graph.levels
  pub few_levels : length graph.levels ≤ length graph.spans + 1
  pub few_states : states_in graph ≤ MOST_BUDGET
  pub few_edges : edges_in graph ≤ 16 * MOST_BUDGET
  pub begins : (level_in graph 0).edges ≡ []
  pub steps : (k : ℕ) → suc k < length graph.levels → AllByRecursion (AddsJob (length graph.spans) (level_in graph k) (level_in graph (suc k))) (level_in graph (suc k)).edges
  pub entered : (k i : ℕ) → suc k < length graph.levels → i < length (level_in graph (suc k)).states → IsSome (find (λ e. e.to == i) (level_in graph (suc k)).edges)
  pub spans : (j : ℕ) → j < length graph.spans → IsSome (slice_index_or graph.spans j None) ↔ IsTrue (has_edge_of graph j)
  pub lines : (k : ℕ) → k < length graph.levels → FitsLines (level_in graph k)
  pub ends : AllByRecursion (IsSpanUpTo most_number) graph.spans

-- The graph of a table up to level k is one, where it is within a budget.
abbrev pub GraphsAreHeld : Type 0
GraphsAreHeld =
    (table : Table) (m k : ℕ) → IsTable table → 1 ≤ m → m ≤ MOST_CORES → k ≤ length table.jobs →
    state_total table m k ≤ MOST_BUDGET → edge_total table m k ≤ 16 * MOST_BUDGET → IsHeldGraph (graph_up_to table m k)
