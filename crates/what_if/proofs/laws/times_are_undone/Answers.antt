use Rattle.what_if.proofs.TimesUndone.{times_are_undone}
use Rattle.what_if.proofs.laws.times_are_undone.Goals as goal

pub returns : goal.returns
returns c = times_are_undone
