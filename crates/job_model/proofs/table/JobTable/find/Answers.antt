use Rattle.std.proofs.Common.{sym}
use Rattle.job_model.proofs.TableLemmas.{job-found}
use Rattle.job_model.proofs.table.JobTable.find.Goals as goal

pub returns-clause-found : goal.returns-clause-found
returns-clause-found c =
    rw (← c.self.view_is) (job-found c.self.inside.jobs.items c.self.inside.ids.keys c.args.task c.args.job c.in_ok-place.place c.self.invariant.1 (sym c.in_ok-place.ensures.index))
