use Rattle.std.proofs.Common.{◌≡◌, ◌≤◌}
use Rattle.std.specs.Prelude.{nat_le}
use Rattle.std.specs.List.{count_by}
use Rattle.lists.specs.Numbers.{numbers_below}
use Rattle.run_cover.specs.Covers.{core_end}
use Rattle.run_cover.proofs.core_times.free_by.Given as goal

-- how many of the cores so far are free
abbrev pub invariant-loop-core : goal.invariant-loop-core
invariant-loop-core l = record {
  count : l.count ≡ count_by (λ core. nat_le (core_end l.scenario l.schedule l.set.members core) l.moment) (numbers_below l.core);
  fewer : l.count ≤ l.core;
}
