use Rattle.sag_step.proofs.Widening as law
use Rattle.sag_step.proofs.laws.widening_is_transitive.Goals as goal

pub returns : goal.returns
returns c = law.widening_is_transitive
