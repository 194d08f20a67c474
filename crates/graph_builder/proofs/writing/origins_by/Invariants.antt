use Rattle.std.proofs.Common.{◌≡◌, drop, map}
use Rattle.lists.specs.Numbers.{numbers_below}
use Rattle.graph_builder.specs.Writing.{origin_at}
use Rattle.graph_builder.proofs.writing.origins_by.Given as goal

-- the origins by the edges from there on
abbrev pub invariant-loop-i : goal.invariant-loop-i
invariant-loop-i l = l.origins.items ≡ map (origin_at (drop l.i l.edges)) (numbers_below l.count)
