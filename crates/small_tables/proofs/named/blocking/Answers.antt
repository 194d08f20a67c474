use Rattle.small_tables.specs.Tables.{blocking_table}
use Rattle.small_tables.proofs.named.blocking.Goals as goal

pub returns : goal.returns
unfolding blocking_table
returns c = c.build_table.ensures
