use Rattle.sag_step.proofs.Widening as law
use Rattle.sag_step.proofs.laws.shaped_are_comparable.Goals as goal

pub returns : goal.returns
returns c = law.shaped_are_comparable
