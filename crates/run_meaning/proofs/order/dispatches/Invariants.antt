use Rattle.std.proofs.Common.{◌≡◌, map}
use Rattle.lists.specs.Numbers.{numbers_below}
use Rattle.run_meaning.specs.Dispatches.{dispatch_of}
use Rattle.run_meaning.proofs.order.dispatches.Given as goal

abbrev pub invariant-loop-no : goal.invariant-loop-no
invariant-loop-no l = l.jobs.items ≡ map (dispatch_of l.table l.schedule) (numbers_below l.no)
