use Rattle.side_csv.proofs.OnePrecedenceFault.{one_precedence_fault}
use Rattle.side_csv.proofs.laws.one_precedence_fault.Goals as goal

pub returns : goal.returns
returns c = one_precedence_fault c.rows_agree.ensures c.rows_keep_rules.ensures c.one_first_fault.ensures
