use Rattle.small_tables.specs.Tables.{wide_release_table}
use Rattle.small_tables.proofs.named.wide_release.Goals as goal

pub returns : goal.returns
unfolding wide_release_table
returns c = c.build_table.ensures
