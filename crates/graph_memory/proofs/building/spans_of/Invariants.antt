use Rattle.std.proofs.Common.{◌≡◌, take}
use Rattle.graph_memory.proofs.building.spans_of.Given as goal

-- the spans of the jobs so far
abbrev pub invariant-loop-j : goal.invariant-loop-j
invariant-loop-j l = l.spans.items ≡ take l.j l.builder.spans
