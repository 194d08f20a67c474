use Rattle.std.proofs.Common.{◌<◌, ap, arith, length}
use Rattle.job_model.specs.Table.{Table}
use Rattle.job_model.specs.Times.{MayCost}
use Rattle.job_model.proofs.Retimed.{kept}
use Rattle.job_model.proofs.table.JobTable.retime.Goals as goal

pub invariant_of-self : goal.invariant_of-self
invariant_of-self c =
    let w = c.self.inside in
    let table : Table = record { jobs = w.jobs.items; edges = w.edges } in
    let jobs = ap (λ (t : Table). length t.jobs) c.self.view_is in
    let within : c.no.inside.0 < length w.jobs.items = omega (arith, c.requires, jobs, c.no.view_is) in
    let may : MayCost c.args.cmin c.args.cmax = c.may_cost.ensures.0 c.if-not-may_cost.false in
    kept table c.no.inside.0 c.args.cmin c.args.cmax c.args.deadline within c.index_mut-job.result.now w.ids.keys w.by_release.items w.ranks.items c.index_mut-job.ensures.value
    c.self.invariant.0 c.self.invariant.1 c.self.invariant.2 c.self.invariant.3 may
