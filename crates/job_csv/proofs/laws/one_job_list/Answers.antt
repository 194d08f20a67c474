use Rattle.job_csv.proofs.OneJobList.{one_job_list}
use Rattle.job_csv.proofs.laws.one_job_list.Goals as goal

pub returns : goal.returns
returns c = one_job_list c.rows_agree.ensures
