use Rattle.side_csv.proofs.OneRowFault.{one-row-fault}
use Rattle.side_csv.specs.ScenarioText.{outside_in_scenario}
use Rattle.side_csv.proofs.laws.one_scenario_fault.Goals as goal

pub returns : goal.returns
returns c table bytes one other is_table =
    one-row-fault c.rows_agree.ensures c.rows_keep_rules.ensures c.one_first_fault.ensures 4 (outside_in_scenario table) table is_table bytes one other
