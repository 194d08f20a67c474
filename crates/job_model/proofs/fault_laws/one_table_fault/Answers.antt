use Rattle.job_model.proofs.FirstTableFaults.{one-table_fault}
use Rattle.job_model.proofs.fault_laws.one_table_fault.Goals as goal

pub returns : goal.returns
returns c = one-table_fault
