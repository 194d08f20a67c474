use Rattle.small_tables.specs.Tables.{late_and_urgent_table}
use Rattle.small_tables.proofs.named.late_and_urgent.Goals as goal

pub returns : goal.returns
unfolding late_and_urgent_table
returns c = c.build_table.ensures
