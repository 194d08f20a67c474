use Rattle.side_csv.proofs.EditLemmas.{one_list_of_edits}
use Rattle.side_csv.proofs.laws.one_list_of_edits.Goals as goal

pub returns : goal.returns
returns c = one_list_of_edits c.rows_agree.ensures
