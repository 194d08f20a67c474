use Rattle.graph_memory.proofs.SpanLines as law
use Rattle.graph_memory.proofs.laws.job_lines_tell_spans.Goals as goal

pub returns : goal.returns
returns c = law.job_lines_tell_spans
