use Rattle.gap_trials.proofs.FittingTrials as law
use Rattle.gap_trials.proofs.laws.trials_fit.Goals as goal

pub returns : goal.returns
returns c = law.trials_fit c.ends_are_attained.ensures c.plain_trials_fit.ensures
