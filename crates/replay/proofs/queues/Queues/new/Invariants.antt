use Rattle.std.proofs.Common.{heap_items}
use Rattle.replay.proofs.First.{HasFirst}
use Rattle.replay.proofs.queues.Queues.new.Given as goal

abbrev pub invariant-loop-no : goal.invariant-loop-no
invariant-loop-no l = HasFirst l.table l.scenario (heap_items l.later) l.readiness.items l.no
