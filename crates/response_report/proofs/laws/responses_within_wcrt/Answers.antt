use Rattle.response_report.proofs.TaskLemmas.{responses_within_wcrt}
use Rattle.response_report.proofs.laws.responses_within_wcrt.Goals as goal

pub returns : goal.returns
returns c = responses_within_wcrt
