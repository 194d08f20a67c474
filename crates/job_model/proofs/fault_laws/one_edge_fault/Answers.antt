use Rattle.job_model.proofs.FirstEdgeFaults.{one-edge_fault}
use Rattle.job_model.proofs.fault_laws.one_edge_fault.Goals as goal

pub returns : goal.returns
returns c = one-edge_fault
