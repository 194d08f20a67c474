use Rattle.std.proofs.Common.{◌≡◌, drop, map, max}
use Rattle.lists.specs.Numbers.{greatest}
use Rattle.start_windows.specs.Ends.{high_end}
use Rattle.start_windows.specs.Window.{latest_ready}
use Rattle.start_windows.proofs.windows.latest_ready.Given as goal

-- with the predecessors that are left
abbrev pub invariant-loop-no : goal.invariant-loop-no
invariant-loop-no l = max l.ready (greatest (map (high_end l.ends.items) (drop l.no-index l.no-items))) ≡ latest_ready l.table l.ends.items l.fn.job
