use Rattle.replay.specs.Underway.{LoopKeeps}
use Rattle.replay.proofs.dispatch.replay.Given as goal

abbrev pub invariant-loop-turn : goal.invariant-loop-turn
invariant-loop-turn l = LoopKeeps l.table l.cores l.scenario l.queues l.places.items l.free.items l.clock l._turn
