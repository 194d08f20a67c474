use Rattle.small_tables.specs.Tables.{one_predecessor_table}
use Rattle.small_tables.proofs.named.one_predecessor.Goals as goal

pub returns : goal.returns
unfolding one_predecessor_table
returns c = c.build_table.ensures
