use Rattle.job_model.proofs.TableLemmas.{no-table}
use Rattle.job_model.proofs.fault_laws.tables_keep_rules.Goals as goal

pub returns : goal.returns
returns c = λ rows table e other first. no-table rows e other first table
