use Rattle.std.proofs.Common.{◌≡◌}
use Rattle.graph_memory.specs.Building.{HasBuilt}
use Rattle.graph_memory.proofs.building.build.Given as goal

-- the levels so far are kept
abbrev pub invariant-loop : goal.invariant-loop
invariant-loop l = HasBuilt l.table l.cores l.builder l.levels.items × (l.builder.level ≡ l.counter) × (l.builder.budget ≡ l.budget)
