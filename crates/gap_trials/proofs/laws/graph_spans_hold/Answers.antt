use Rattle.gap_trials.proofs.HeldSpans as law
use Rattle.gap_trials.proofs.laws.graph_spans_hold.Goals as goal

pub returns : goal.returns
returns c = law.graph_spans_hold c.graph_is_valid.ensures c.job_entries_are_spans.ensures c.spans_hold.ensures
