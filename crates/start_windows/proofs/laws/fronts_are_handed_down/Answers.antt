use Rattle.start_windows.proofs.Fronts as law
use Rattle.start_windows.proofs.laws.fronts_are_handed_down.Goals as goal

pub returns : goal.returns
returns c = law.fronts_are_handed_down
