use Rattle.std.proofs.Common.{ap, sym, ◌∙◌, ℕ}
use Rattle.std.specs.Prelude.{◌==◌}
use Rattle.graph_check.specs.Checks.{is_behind_block}
use Rattle.graph_check.specs.Comings.{HeldProgress}
use Rattle.graph_check.specs.Shown.{held_progress}
use Rattle.graph_check.proofs.JobLists.{length-entries}
use Rattle.graph_check.proofs.LineOutcomes.{behind-job}
use Rattle.graph_check.proofs.progress.Progress.is_behind_block.Goals as goal

pub returns-then-self-gt0 : goal.returns-then-self-gt0
returns-then-self-gt0 c =
    let p = c.self.inside in
    let h = held_progress p in
    let all = length-entries p.jobs.spans.items p.jobs.marks.items c.self.invariant.2 in
    behind-job h.progress h.progress.due c.is_empty.result c.in-Job.is c.if-self-gt0.true (c.is_empty.ensures ∙ ap (λ (n : ℕ). n == 0) (p.jobs.spans.ok.0 ∙ sym all))
    ∙ ap (λ (k : HeldProgress). is_behind_block k.progress k.progress.due) c.self.view_is
