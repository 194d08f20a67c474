use Rattle.run_turns.proofs.Turns as law
use Rattle.run_turns.proofs.runs_exist.Goals as goal

pub returns : goal.returns
returns c = law.runs_exist
