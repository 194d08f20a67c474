use Rattle.job_model.proofs.EdgeLemmas.{no-rules}
use Rattle.job_model.proofs.fault_laws.edges_keep_rules.Goals as goal

pub returns : goal.returns
returns c = λ rows keep e other first. no-rules rows e other first keep
