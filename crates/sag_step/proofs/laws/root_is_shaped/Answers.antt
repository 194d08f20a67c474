use Rattle.sag_step.proofs.RootState as law
use Rattle.sag_step.proofs.laws.root_is_shaped.Goals as goal

pub returns : goal.returns
returns c = law.root_is_shaped
