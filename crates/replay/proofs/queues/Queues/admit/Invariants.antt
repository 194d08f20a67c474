use Rattle.std.proofs.Common.{heap_items, heap_len}
use Rattle.replay.proofs.queues.Queues.admit.Given as goal
use Rattle.replay.proofs.Queued.{IsMoved}

abbrev pub invariant-loop-next : goal.invariant-loop-next
invariant-loop-next l = IsMoved l.table l.now l.fn.self (heap_items l.self-inside.waiting) (heap_items l.self-inside.later) l.self-inside.readiness.items

abbrev pub decreases-loop-next : goal.decreases-loop-next
decreases-loop-next l = heap_len l.self-inside.later
