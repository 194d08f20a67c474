use Rattle.sag_step.proofs.ShapeTest as law
use Rattle.sag_step.proofs.laws.shape_is_tested.Goals as goal

pub returns : goal.returns
returns c = law.shape_is_tested
