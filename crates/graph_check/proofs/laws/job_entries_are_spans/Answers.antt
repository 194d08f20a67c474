use Rattle.graph_check.proofs.Accepted.{job_entries_are_spans}
use Rattle.graph_check.proofs.laws.job_entries_are_spans.Goals as goal

pub returns : goal.returns
returns c = job_entries_are_spans
