use Rattle.job_model.proofs.RankLaws.{ranks_order}
use Rattle.job_model.proofs.laws.ranks_order_jobs.Goals as goal

pub returns : goal.returns
returns c = ranks_order
