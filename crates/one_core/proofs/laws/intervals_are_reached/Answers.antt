use Rattle.one_core.proofs.Reached as law
use Rattle.one_core.proofs.laws.intervals_are_reached.Goals as goal

pub returns : goal.returns
returns c = law.intervals_are_reached c.each_job_has_edge.ensures
