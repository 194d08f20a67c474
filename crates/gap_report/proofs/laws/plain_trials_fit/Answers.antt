use Rattle.gap_report.proofs.TrialsFit.{plain_trials_fit}
use Rattle.gap_report.proofs.laws.plain_trials_fit.Goals as goal

pub returns : goal.returns
returns c = plain_trials_fit
