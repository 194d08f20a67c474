use Rattle.side_csv.proofs.PrecedenceLemmas.{one_precedence}
use Rattle.side_csv.proofs.laws.one_precedence.Goals as goal

pub returns : goal.returns
returns c = one_precedence c.rows_agree.ensures
