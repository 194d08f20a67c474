use Rattle.state_calls.proofs.Walks.{IsReached}
use Rattle.state_calls.proofs.sag_step_calls.walk.Given as goal

-- what so many steps keep
abbrev pub invariant-loop-place : goal.invariant-loop-place
invariant-loop-place g l = IsReached l.table l.cores l.place l.state.state
