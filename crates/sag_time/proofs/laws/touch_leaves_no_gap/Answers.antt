use Rattle.sag_time.proofs.IntervalLaws as law
use Rattle.sag_time.proofs.laws.touch_leaves_no_gap.Goals as goal

pub returns : goal.returns
returns c = law.touch_leaves_no_gap
