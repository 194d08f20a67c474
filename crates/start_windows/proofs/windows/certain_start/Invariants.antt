use Rattle.std.proofs.Common.{◌≡◌, map}
use Rattle.std.specs.Prelude.{filter}
use Rattle.lists.specs.Numbers.{least, numbers_below}
use Rattle.start_windows.specs.Window.{is_candidate, latest_ready}
use Rattle.start_windows.proofs.windows.certain_start.Given as goal

-- that of the candidates so far
abbrev pub invariant-loop-no : goal.invariant-loop-no
invariant-loop-no l = l.least ≡ least (map (latest_ready l.table l.ends.items) (filter (is_candidate l.table l.set.members) (numbers_below l.no)))
