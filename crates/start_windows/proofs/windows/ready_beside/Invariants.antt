use Rattle.std.proofs.Common.{◌≡◌, drop, map, max, not}
use Rattle.std.specs.Prelude.{filter}
use Rattle.job_sets.specs.Subset.{is_member}
use Rattle.lists.specs.Numbers.{greatest}
use Rattle.job_model.specs.Table.{predecessors}
use Rattle.start_windows.specs.Ends.{high_end}
use Rattle.start_windows.specs.Window.{ready_beside}
use Rattle.start_windows.proofs.windows.ready_beside.Given as goal

-- with the predecessors that are left
abbrev pub invariant-loop-no : goal.invariant-loop-no
invariant-loop-no l =
    max l.ready (greatest (map (high_end l.ends.items) (filter (λ i. not (is_member i (predecessors l.table l.fn.job))) (drop l.no-index l.no-items)))) ≡ ready_beside l.table l.ends.items l.fn.job l.fn.other
