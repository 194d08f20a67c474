use Rattle.side_csv.proofs.ItemLemmas.{one-given}
use Rattle.side_csv.specs.ScenarioText.{outside_in_scenario, values_in}
use Rattle.side_csv.proofs.laws.one_scenario.Goals as goal

pub returns : goal.returns
returns c table bytes one other = one-given c.rows_agree.ensures 4 (outside_in_scenario table) values_in (0, 0) table bytes one other
