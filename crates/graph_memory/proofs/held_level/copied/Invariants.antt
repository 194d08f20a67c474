use Rattle.std.proofs.Common.{◌≡◌, take}
use Rattle.sag_step.specs.State.{states_of}
use Rattle.graph_memory.proofs.held_level.copied.Given as goal

abbrev pub invariant-loop-state : goal.invariant-loop-state
invariant-loop-state l = states_of l.copies.items ≡ states_of (take l.state-index l.states)
