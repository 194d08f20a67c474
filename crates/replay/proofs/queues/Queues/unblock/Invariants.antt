use Rattle.std.proofs.Common.{take}
use Rattle.job_model.specs.Table.{successors}
use Rattle.replay.specs.Queues.{Unblocks}
use Rattle.replay.proofs.queues.Queues.unblock.Given as goal

abbrev pub invariant-loop-next : goal.invariant-loop-next
invariant-loop-next l = Unblocks l.table l.fn.self l.self l.finish (take l.next-index (successors l.table l.fn.job))
