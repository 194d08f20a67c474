use Rattle.std.proofs.Common.{◌≡◌, ◌++◌, drop, length, take}
use Rattle.graph_builder.specs.Writing.{edge_lines, text_of}
use Rattle.graph_builder.proofs.writing.write_edges.Given as goal

-- what is written, and the lines of the edges that are left, are all
abbrev pub invariant-loop-i : goal.invariant-loop-i
invariant-loop-i l = record {
  lines : l.into.items ++ text_of (edge_lines (drop l.i l.edges)) ≡ l.initial.into.items ++ text_of (edge_lines l.edges);
  begins : take (length l.initial.into.items) l.into.items ≡ l.initial.into.items;
}
