use Rattle.std.proofs.Common.{◌≡◌, ◌++◌, List, length, take}
use Rattle.sag_graph.specs.declared.edge.Edge.{Edge}
use Rattle.std.specs.List.{AllByRecursion}
use Rattle.sag_graph.specs.Spans.{spans_by}
use Rattle.graph_builder.specs.Writing.{IsSpanUpTo}
use Rattle.graph_builder.proofs.spans.widen.Given as goal

-- the spans are those by the edges that were walked along
abbrev pub invariant-loop-i : goal.invariant-loop-i
invariant-loop-i l = record {
  spans : (before : List Edge) → l.initial.spans.items ≡ spans_by l.table before → l.spans.items ≡ spans_by l.table (before ++ take l.i l.edges);
  count : length l.spans.items ≡ length l.table.jobs;
  fit : AllByRecursion (IsSpanUpTo 4611686018427387903) l.spans.items;
}
