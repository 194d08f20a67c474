use Rattle.std.proofs.Common.{◌-◌, heap_items, length}
use Rattle.std.specs.BinaryHeap.{IsHeap}
use Rattle.run_audit.specs.Waits.{HoldsBy, most_urgent_first}
use Rattle.run_audit.proofs.waits.Waiters.admit.Given as goal

-- what was let in so far
abbrev pub invariant-loop-time : goal.invariant-loop-time
invariant-loop-time l =
    IsHeap most_urgent_first (heap_items l.self-inside.waiting)
    × HoldsBy l.entries l.order l.now (record { waiting = heap_items l.self-inside.waiting; passed = l.self-inside.passed })

abbrev pub decreases-loop-time : goal.decreases-loop-time
decreases-loop-time l = length l.order - l.self-inside.passed
