use Rattle.run_meaning.proofs.Ends as law
use Rattle.run_meaning.proofs.laws.runs_end.Goals as goal

pub returns : goal.returns
returns c = law.runs_end
