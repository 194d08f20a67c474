use Rattle.std.proofs.Common.{◌≡◌, [], ◌∷◌, ◌++◌, false, ap, ◌∙◌}
use Rattle.std.specs.Prelude.{is_err}
use Rattle.sag_time.specs.Interval.{Interval}
use Rattle.graph_check.specs.Told.{entries_of}
use Rattle.graph_check.proofs.JobLists.{entries-more}
use Rattle.graph_check.proofs.LineChecks.{span-is}
use Rattle.graph_check.proofs.Offers.{by-ok}
use Rattle.graph_check.specs.declared.due.Due.TheVariants as due
use Rattle.cert_text.specs.declared.line.CertLine.TheVariants as line
use Rattle.graph_check.specs.Shown.{held_progress}
use Rattle.graph_check.specs.declared.answer.Broken.TheVariants as broken
use Rattle.graph_check.proofs.LineOutcomes.{after-job, comes-broken, comes-err, comes-taken}
use Rattle.graph_check.proofs.progress.Progress.job.Goals as goal

pub returns-in-Some-clause-comes : goal.returns-in-Some-clause-comes
returns-in-Some-clause-comes c =
    let a = c.args in
    comes-broken a.self.now due.Job (line.Job a.number a.lo a.hi a.mark) c.requires.due c.in-Some.clause _ c.in-Some.ensures

pub returns-then-is_err-clause-comes : goal.returns-then-is_err-clause-comes
returns-then-is_err-clause-comes c =
    let a = c.args in
    comes-err a.self.now due.Job (line.Job a.number a.lo a.hi a.mark) c.requires.due broken.Memory _ tt

pub returns-clause-comes : goal.returns-clause-comes
returns-clause-comes c =
    let a = c.args in
    let p = c.self.inside in
    let h = held_progress p in
    let fine : is_err c.add-added.result ≡ false = cc in
    let spans = by-ok c.add-added.result fine c.add-added.ensures.spans in
    let marks = by-ok c.add-added.result fine c.add-added.ensures.marks in
    let told = rw c.unwrap-span.ensures at c.new.ensures.span in
    let span = span-is c.unwrap-span.result a.lo a.hi told.0 told.1 in
    let jobs = ap (λ ss. entries_of ss c.add-added.new.self.marks.items) spans ∙ ap (λ ms. entries_of (p.jobs.spans.items ++ c.unwrap-span.result ∷ []) ms) marks
    ∙ entries-more p.jobs.spans.items p.jobs.marks.items c.unwrap-span.result a.mark c.self.invariant.2
    ∙ ap (λ (s : Interval). entries_of p.jobs.spans.items p.jobs.marks.items ++ record { span = s; mark = a.mark } ∷ []) span in
    comes-taken a.self.now due.Job (line.Job a.number a.lo a.hi a.mark) c.requires.due h _ c.self.view_is c.in_default.ensures
    (after-job h.table h.progress _ c.due_at_end-self-inside.result a.number a.lo a.hi a.mark jobs c.due_at_end-self-inside.ensures)
