use Rattle.gap_trials.proofs.OneRow as law
use Rattle.gap_trials.proofs.laws.one_gap.Goals as goal

pub returns : goal.returns
returns c = law.one_gap c.trials_fit.ensures c.runs_exist.ensures
