use Rattle.run_meaning.specs.Ready.{no_place}
use Rattle.side_csv.proofs.OneRowFault.{no-fault}
use Rattle.side_csv.specs.RunText.{outside_in_run, place_in}
use Rattle.side_csv.proofs.laws.runs_keep_rules.Goals as goal

pub returns : goal.returns
returns c table scenario bytes schedule is_table text = no-fault c.rows_agree.ensures c.rows_keep_rules.ensures 5 (outside_in_run scenario) place_in no_place table is_table bytes schedule text
