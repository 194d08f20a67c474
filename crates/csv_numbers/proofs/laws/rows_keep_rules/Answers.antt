use Rattle.csv_numbers.proofs.RowsKeepRules.{rows_keep_rules}
use Rattle.csv_numbers.proofs.laws.rows_keep_rules.Goals as goal

pub returns : goal.returns
returns c = rows_keep_rules
