use Rattle.side_csv.proofs.OneEditFault.{one_edit_fault}
use Rattle.side_csv.proofs.laws.one_edit_fault.Goals as goal

pub returns : goal.returns
returns c = one_edit_fault c.rows_agree.ensures c.rows_keep_rules.ensures c.one_first_fault.ensures
