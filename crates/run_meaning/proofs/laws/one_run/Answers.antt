use Rattle.run_meaning.proofs.OneRun as law
use Rattle.run_meaning.proofs.laws.one_run.Goals as goal

pub returns : goal.returns
returns c = law.one_run
