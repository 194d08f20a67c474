use Rattle.std.proofs.Common.{◌<◌, length, ap, ◌∙◌, arith}
use Rattle.job_model.specs.Table.{Table, job_at}
use Rattle.graph_check.specs.Comings.{HeldProgress}
use Rattle.graph_check.specs.Kept.{hulls_with}
use Rattle.graph_check.specs.Shown.{held_progress}
use Rattle.graph_check.proofs.WidenedHulls.{finish-is, widened}
use Rattle.graph_check.proofs.progress.Progress.widen_hull.Goals as goal

pub returns : goal.returns
returns c =
    let a = c.args in
    let p = c.self.inside in
    let h = held_progress p in
    let told = rw c.unwrap-finish.ensures at c.new.ensures.span in
    let work = c.job-work.ensures.job ∙ ap (λ (t : Table). job_at t a.job) c.table-table.ensures in
    let finish = finish-is h.table a.job a.est a.lst c.job-work.result.now c.unwrap-finish.result work told.0 told.1 in
    widened h a.self.now c.self.view_is _ a.job (record { est = a.est; lst = a.lst }) (c.widen.ensures ∙ ap (hulls_with p.hulls a.job) finish)

pub widen-requires : goal.widen-requires
widen-requires c =
    let jobs = ap (λ (k : HeldProgress). length k.table.jobs) c.self.view_is in
    omega (arith, jobs, c.self.invariant.1, c.requires.job)
