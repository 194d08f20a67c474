use Rattle.gap_trials.proofs.InnerSpans as law
use Rattle.gap_trials.proofs.laws.inner_ends_in_spans.Goals as goal

pub returns : goal.returns
returns c = law.inner_ends_in_spans c.trials_fit.ensures c.runs_exist.ensures c.graph_spans_hold.ensures
