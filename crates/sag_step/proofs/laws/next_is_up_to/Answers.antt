use Rattle.sag_step.proofs.NextStates as law
use Rattle.sag_step.proofs.laws.next_is_up_to.Goals as goal

pub returns : goal.returns
returns c = law.next_is_up_to
