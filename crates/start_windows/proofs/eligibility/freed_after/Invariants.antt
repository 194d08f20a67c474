use Rattle.std.proofs.Common.{◌≡◌, drop, map, max}
use Rattle.lists.specs.Numbers.{greatest}
use Rattle.job_model.specs.Table.{predecessors}
use Rattle.start_windows.specs.Ends.{high_end, low_end}
use Rattle.start_windows.proofs.eligibility.freed_after.Given as goal

-- with the predecessors that are left
abbrev pub invariant-loop-no : goal.invariant-loop-no
invariant-loop-no l = record {
  low : max l.low (greatest (map (low_end l.ends.items) (drop l.no-index l.no-items))) ≡ greatest (map (low_end l.ends.items) (predecessors l.table l.fn.job));
  high : max l.high (greatest (map (high_end l.ends.items) (drop l.no-index l.no-items))) ≡ greatest (map (high_end l.ends.items) (predecessors l.table l.fn.job));
}
