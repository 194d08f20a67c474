use Rattle.sag_time.proofs.IntervalLaws as law
use Rattle.sag_time.proofs.laws.covers_holds_all.Goals as goal

pub returns : goal.returns
returns c = law.covers_holds_all
