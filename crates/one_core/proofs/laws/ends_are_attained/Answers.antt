use Rattle.one_core.proofs.Ends as law
use Rattle.one_core.proofs.laws.ends_are_attained.Goals as goal

pub returns : goal.returns
returns c = law.ends_are_attained c.each_job_has_edge.ensures
