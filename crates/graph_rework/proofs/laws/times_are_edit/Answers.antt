use Rattle.graph_rework.proofs.TimesEdits.{times_are_edit}
use Rattle.graph_rework.proofs.laws.times_are_edit.Goals as goal

pub returns : goal.returns
returns c = times_are_edit
