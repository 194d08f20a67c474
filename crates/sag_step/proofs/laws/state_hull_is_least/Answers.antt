use Rattle.sag_step.proofs.Widening as law
use Rattle.sag_step.proofs.laws.state_hull_is_least.Goals as goal

pub returns : goal.returns
returns c = law.state_hull_is_least
