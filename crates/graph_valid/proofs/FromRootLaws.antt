-- What is shown of the graph from the root on.
--     GraphIsValid         the lines of the graph of a table are valid
--     GraphIsShort         they have at most 2^40 bytes then
--     EachJobHasEdge       each job has an edge, so that its interval is a hull of some
--     GraphIsReadable      they are lines of a readable certificate, where the graph is within the greatest budget
use Rattle.std.specs.Prelude.{ℕ, ◌<◌, ◌≤◌, ◌^◌, length, IsNone, IsSome}
use Rattle.std.specs.List.{flat_map}
use Rattle.job_model.specs.declared.limits.TheConstants.{MOST_CORES}
use Rattle.job_model.specs.Table.{Table, IsTable}
use Rattle.cert_text.specs.Grammar.{second_version}
use Rattle.cert_text.specs.Spelling.{line_text}
use Rattle.cert_text.specs.Readable.{Readable}
use Rattle.graph_check.specs.Valid.{Valid}
use Rattle.sag_graph.specs.declared.TheConstants.{MOST_BUDGET}
use Rattle.graph_valid.proofs.FromRoot.{graph_edges, span_over}
use Rattle.graph_valid.proofs.FromRootLines.{graph_lines}
use Rattle.graph_valid.proofs.FromRootBudget.{excess}

-- For every table and number of cores the lines of the graph keep all clauses.
abbrev pub GraphIsValid : Type 0
GraphIsValid = (table : Table) (m : ℕ) → IsTable table → 1 ≤ m → Valid table m (graph_lines table m)

-- Where the graph does not exceed the greatest budget, the spelling of its lines is a readable certificate of them.
abbrev pub GraphIsReadable : Type 0
GraphIsReadable =
    (table : Table) (m : ℕ) → IsTable table → 1 ≤ m → m ≤ MOST_CORES → IsNone (excess table m MOST_BUDGET) →
    Readable second_version (flat_map (line_text second_version) (graph_lines table m)) (graph_lines table m)

-- It has at most 2^40 bytes.
abbrev pub GraphIsShort : Type 0
GraphIsShort =
    (table : Table) (m : ℕ) → IsTable table → 1 ≤ m → m ≤ MOST_CORES → IsNone (excess table m MOST_BUDGET) →
    length (flat_map (line_text second_version) (graph_lines table m)) ≤ 2 ^ 40

-- Each job of the table has an edge in the graph.
abbrev pub EachJobHasEdge : Type 0
EachJobHasEdge = (table : Table) (m j : ℕ) → IsTable table → 1 ≤ m → j < length table.jobs → IsSome (span_over table j (graph_edges table m))
