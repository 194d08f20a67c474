use Rattle.csv_numbers.proofs.RowsAgree.{rows_agree}
use Rattle.csv_numbers.proofs.laws.rows_agree.Goals as goal

pub returns : goal.returns
returns c = rows_agree
