use Rattle.run_cover.proofs.StepCovers as law
use Rattle.run_cover.proofs.laws.steps_cover.Goals as goal

pub returns : goal.returns
returns c = law.steps_cover
