use Rattle.side_csv.proofs.EditLemmas.{edits_keep_rules}
use Rattle.side_csv.proofs.laws.edits_keep_rules.Goals as goal

pub returns : goal.returns
returns c = edits_keep_rules c.rows_agree.ensures c.rows_keep_rules.ensures
