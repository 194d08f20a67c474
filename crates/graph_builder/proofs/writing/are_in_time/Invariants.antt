use Rattle.std.proofs.Common.{◌≡◌, drop}
use Rattle.std.specs.List.{enumerate_from, list_all}
use Rattle.sag_graph.specs.Lines.{is_in_time, numbered_spans}
use Rattle.graph_builder.proofs.LineLemmas.{known_from}
use Rattle.graph_builder.proofs.writing.are_in_time.Given as goal

-- whether those are that are left is whether all are
abbrev pub invariant-loop-j : goal.invariant-loop-j
invariant-loop-j l = list_all (is_in_time l.table) (known_from l.j (drop l.j l.spans)) ≡ list_all (is_in_time l.table) (numbered_spans l.spans)
