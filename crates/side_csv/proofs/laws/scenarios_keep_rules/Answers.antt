use Rattle.side_csv.proofs.OneRowFault.{no-fault}
use Rattle.side_csv.specs.ScenarioText.{outside_in_scenario, values_in}
use Rattle.side_csv.proofs.laws.scenarios_keep_rules.Goals as goal

pub returns : goal.returns
returns c table bytes scenario is_table text = no-fault c.rows_agree.ensures c.rows_keep_rules.ensures 4 (outside_in_scenario table) values_in (0, 0) table is_table bytes scenario text
