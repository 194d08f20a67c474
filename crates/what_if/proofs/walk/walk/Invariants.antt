use Rattle.std.proofs.Common.{◌≡◌}
use Rattle.graph_builder.specs.Standing.{builder_at}
use Rattle.what_if.proofs.walk.walk.Given as goal

-- the builder stands at the next level of the table's graph
abbrev pub invariant-loop : goal.invariant-loop
invariant-loop l = l.builder ≡ builder_at l.table l.cores l.budget l.counter
