-- Laws of the certificates of graphs.
--     GraphIsValid         the lines of the graph of a table are valid
--     GraphIsReadable      they are lines of a readable certificate, where the graph is within a budget
--     GraphIsShort         they have at most 2^40 bytes then
--     EachJobHasEdge       each job has an edge, so that its interval is a hull of some
--     IsEdgeBetween        an edge of a job of the table from one of some states to one of others
--     EdgesNameStates      each edge is one from a state of a level to one of the next
--     EachStateHasEdge     each state above level 0 has an edge into it
use Rattle.std.specs.Prelude.{ℕ, suc, List, ◌<◌, ◌≤◌, ◌^◌, ◌==◌, find, length, IsNone, IsSome}
use Rattle.std.specs.List.{AllByRecursion}
use Rattle.job_model.specs.declared.limits.TheConstants.{MOST_CORES}
use Rattle.job_model.specs.Table.{Table, IsTable}
use Rattle.sag_step.specs.State.{SystemState}
use Rattle.cert_text.specs.Grammar.{second_version}
use Rattle.cert_text.specs.Readable.{Readable}
use Rattle.graph_check.specs.Valid.{Valid}
use Rattle.sag_graph.specs.declared.TheConstants.{MOST_BUDGET}
use Rattle.sag_graph.specs.declared.edge.Edge.{Edge}
use Rattle.sag_graph.specs.Levels.{level_at}
use Rattle.sag_graph.specs.Spans.{span_of, edges_up_to}
use Rattle.sag_graph.specs.CertificateText.{lines_of_graph, text_of_graph}
use Rattle.sag_graph.specs.Budget.{spent}

-- For every table and number of cores the lines of the graph keep all clauses.
abbrev pub GraphIsValid : Type 0
GraphIsValid = (table : Table) (m : ℕ) → IsTable table → 1 ≤ m → Valid table m (lines_of_graph table m)

-- Where the graph does not exceed a budget, the spelling of its lines is a readable certificate of them.
abbrev pub GraphIsReadable : Type 0
GraphIsReadable =
    (table : Table) (m budget : ℕ) → IsTable table → 1 ≤ m → m ≤ MOST_CORES → budget ≤ MOST_BUDGET → IsNone (spent table m budget) →
    Readable second_version (text_of_graph table m) (lines_of_graph table m)

-- It has at most 2^40 bytes.
abbrev pub GraphIsShort : Type 0
GraphIsShort =
    (table : Table) (m budget : ℕ) → IsTable table → 1 ≤ m → m ≤ MOST_CORES → budget ≤ MOST_BUDGET → IsNone (spent table m budget) →
    length (text_of_graph table m) ≤ 2 ^ 40

-- Each job of the table has an edge in the graph.
abbrev pub EachJobHasEdge : Type 0
EachJobHasEdge =
    (table : Table) (m j : ℕ) → IsTable table → 1 ≤ m → j < length table.jobs → IsSome (span_of table (edges_up_to table m (length table.jobs)) j)

-- It leads from one of the states before to one of those after, and its job is one of the table.
pub record IsEdgeBetween (table : Table) (before after : List SystemState) (e : Edge) : Type 0 where
  pub from_state : e.from < length before
  pub of_job : e.job < length table.jobs
  pub to_state : e.to < length after

-- Each edge into a level leads from a state of the level before it to one of its own.
abbrev pub EdgesNameStates : Type 0
EdgesNameStates =
    (table : Table) (m k : ℕ) → AllByRecursion (IsEdgeBetween table (level_at table m k).states (level_at table m (suc k)).states) (level_at table m (suc k)).edges

-- Each state above level 0 has an edge into it.
abbrev pub EachStateHasEdge : Type 0
EachStateHasEdge =
    (table : Table) (m k i : ℕ) → i < length (level_at table m (suc k)).states → IsSome (find (λ e. e.to == i) (level_at table m (suc k)).edges)
