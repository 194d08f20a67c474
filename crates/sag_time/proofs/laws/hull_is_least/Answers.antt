use Rattle.sag_time.proofs.IntervalLaws as law
use Rattle.sag_time.proofs.laws.hull_is_least.Goals as goal

pub returns : goal.returns
returns c = law.hull_is_least
