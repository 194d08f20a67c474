use Rattle.std.proofs.Common.{◌≡◌, ◌&&◌, map}
use Rattle.std.specs.Prelude.{filter}
use Rattle.lists.specs.Numbers.{least, numbers_below}
use Rattle.job_model.specs.Table.{has_urgency_over}
use Rattle.start_windows.specs.Window.{is_candidate, ready_beside}
use Rattle.start_windows.proofs.windows.overtaken_from.Given as goal

-- that of the more urgent candidates so far
abbrev pub invariant-loop-no : goal.invariant-loop-no
invariant-loop-no l =
    l.least
    ≡ least (map (ready_beside l.table l.ends.items l.fn.job) (filter (λ x. is_candidate l.table l.set.members x && has_urgency_over l.table x l.fn.job) (numbers_below l.no)))
