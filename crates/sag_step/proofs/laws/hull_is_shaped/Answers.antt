use Rattle.sag_step.proofs.Widening as law
use Rattle.sag_step.proofs.laws.hull_is_shaped.Goals as goal

pub returns : goal.returns
returns c = law.hull_is_shaped
