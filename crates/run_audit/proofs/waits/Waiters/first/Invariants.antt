use Rattle.std.proofs.Common.{heap_items, heap_len}
use Rattle.std.specs.BinaryHeap.{IsHeap}
use Rattle.run_audit.specs.Waits.{Drops, most_urgent_first}
use Rattle.run_audit.proofs.waits.Waiters.first.Given as goal

-- those that were dropped have started
abbrev pub invariant-loop-next : goal.invariant-loop-next
invariant-loop-next l =
    IsHeap most_urgent_first (heap_items l.self-inside.waiting)
    × Drops l.entries l.now l.fn.self (record { waiting = heap_items l.self-inside.waiting; passed = l.self-inside.passed })

abbrev pub decreases-loop-next : goal.decreases-loop-next
decreases-loop-next l = heap_len l.self-inside.waiting
