use Rattle.sag_step.proofs.NextStates as law
use Rattle.sag_step.proofs.laws.scratch_has_room.Goals as goal

pub returns : goal.returns
returns c = law.scratch_has_room
