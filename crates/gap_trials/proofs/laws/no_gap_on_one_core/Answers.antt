use Rattle.gap_trials.proofs.InnerSpans as law
use Rattle.gap_trials.proofs.laws.no_gap_on_one_core.Goals as goal

pub returns : goal.returns
returns c = law.no_gap_on_one_core c.ends_are_attained.ensures c.inner_ends_in_spans.ensures c.runs_exist.ensures
