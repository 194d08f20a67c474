use Rattle.side_csv.proofs.PrecedenceLemmas.{precedence_keeps_rules}
use Rattle.side_csv.proofs.laws.precedence_keeps_rules.Goals as goal

pub returns : goal.returns
returns c = precedence_keeps_rules c.rows_agree.ensures c.rows_keep_rules.ensures
