use Rattle.start_windows.proofs.SomeEligible as law
use Rattle.start_windows.proofs.laws.some_job_is_eligible.Goals as goal

pub returns : goal.returns
returns c = law.some_job_is_eligible
