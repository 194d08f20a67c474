use Rattle.std.proofs.Common.{◌≡◌, ◌++◌, drop, map}
use Rattle.graph_builder.proofs.StateLineLemmas.{end_line}
use Rattle.graph_builder.proofs.state_line.ends_of.Given as goal

-- the ends so far, and those that are left, are all
abbrev pub invariant-loop-place : goal.invariant-loop-place
invariant-loop-place l = l.list ++ map end_line (drop l.place l.ends.items) ≡ map end_line l.ends.items
