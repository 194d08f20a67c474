use Rattle.run_meaning.specs.Ready.{no_place}
use Rattle.side_csv.proofs.ItemLemmas.{one-given}
use Rattle.side_csv.specs.RunText.{outside_in_run, place_in}
use Rattle.side_csv.proofs.laws.one_recorded_run.Goals as goal

pub returns : goal.returns
returns c table scenario bytes one other = one-given c.rows_agree.ensures 5 (outside_in_run scenario) place_in no_place table bytes one other
