use Rattle.std.proofs.Common.{length, ap, ◌∙◌, arith}
use Rattle.job_model.specs.Table.{Table}
use Rattle.graph_check.specs.Comings.{HeldProgress}
use Rattle.graph_check.specs.Progress.{due_at_end}
use Rattle.graph_check.specs.Shown.{held_progress}
use Rattle.graph_check.proofs.JobLists.{length-entries}
use Rattle.graph_check.proofs.LineOutcomes.{due-is-job, due-is-verdict}
use Rattle.graph_check.proofs.progress.Progress.due_at_end.Goals as goal

pub returns-then-len-from : goal.returns-then-len-from
returns-then-len-from c =
    let p = c.self.inside in
    let h = held_progress p in
    let all = length-entries p.jobs.spans.items p.jobs.marks.items c.self.invariant.2 in
    let table = ap (λ (t : Table). length t.jobs) c.table.ensures in
    due-is-job h.table h.progress (omega (arith, all, table, p.jobs.spans.ok.0)) ∙ ap (λ (k : HeldProgress). due_at_end k.table k.progress) c.self.view_is

pub returns-else-len-from : goal.returns-else-len-from
returns-else-len-from c =
    let p = c.self.inside in
    let h = held_progress p in
    let all = length-entries p.jobs.spans.items p.jobs.marks.items c.self.invariant.2 in
    let table = ap (λ (t : Table). length t.jobs) c.table.ensures in
    due-is-verdict h.table h.progress (omega (arith, all, table, p.jobs.spans.ok.0)) ∙ ap (λ (k : HeldProgress). due_at_end k.table k.progress) c.self.view_is
