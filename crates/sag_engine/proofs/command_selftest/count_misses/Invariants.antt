use Rattle.std.proofs.Common.{◌≡◌, ◌≤◌, length}
use Rattle.std.specs.Prelude.{filter, not}
use Rattle.lists.specs.Numbers.{numbers_below}
use Rattle.sag_engine.specs.Selftest.{is_timely}
use Rattle.sag_engine.proofs.command_selftest.count_misses.Given as goal

-- the misses so far
abbrev pub invariant-loop-j : goal.invariant-loop-j
invariant-loop-j l = (l.misses ≤ l.j) × (l.misses ≡ length (filter (λ j. not (is_timely l.table l.graph.spans j)) (numbers_below l.j)))
