use Rattle.std.proofs.Common.{ap, sym, map, ◌∙◌}
use Rattle.graph_check.specs.Comings.{HeldProgress}
use Rattle.graph_check.proofs.JobLists.{entries-spans, entries-marks}
use Rattle.graph_check.proofs.progress.Progress.into_jobs.Goals as goal

pub returns-clause-spans : goal.returns-clause-spans
returns-clause-spans c =
    let p = c.self.inside in
    sym (entries-spans p.jobs.spans.items p.jobs.marks.items c.self.invariant.2) ∙ ap (λ (h : HeldProgress). map (λ s. s.span) h.progress.jobs) c.self.view_is

pub returns-clause-marks : goal.returns-clause-marks
returns-clause-marks c =
    let p = c.self.inside in
    sym (entries-marks p.jobs.spans.items p.jobs.marks.items c.self.invariant.2) ∙ ap (λ (h : HeldProgress). map (λ s. s.mark) h.progress.jobs) c.self.view_is
