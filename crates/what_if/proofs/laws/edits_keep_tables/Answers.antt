use Rattle.what_if.proofs.EditedTables.{edits_keep_tables}
use Rattle.what_if.proofs.laws.edits_keep_tables.Goals as goal

pub returns : goal.returns
returns c = edits_keep_tables
