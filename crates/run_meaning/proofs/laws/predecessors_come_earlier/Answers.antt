use Rattle.run_meaning.proofs.Sorted as law
use Rattle.run_meaning.proofs.laws.predecessors_come_earlier.Goals as goal

pub returns : goal.returns
returns c = law.predecessors_come_earlier
