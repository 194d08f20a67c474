use Rattle.sag_step.proofs.SomeNext as law
use Rattle.sag_step.proofs.laws.some_step_is_left.Goals as goal

pub returns : goal.returns
returns c = law.some_step_is_left c.some_job_is_eligible.ensures
