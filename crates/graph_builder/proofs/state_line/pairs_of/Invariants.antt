use Rattle.std.proofs.Common.{◌≡◌, ◌++◌, drop}
use Rattle.graph_builder.proofs.StateLineLemmas.{pairs_from}
use Rattle.graph_builder.proofs.state_line.pairs_of.Given as goal

-- the pairs so far, and those that are left, are all
abbrev pub invariant-loop-x : goal.invariant-loop-x
invariant-loop-x l = l.pairs ++ pairs_from (drop l.x l.low) (drop l.x l.high) ≡ pairs_from l.low l.high
