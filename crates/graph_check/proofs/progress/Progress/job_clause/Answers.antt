use Rattle.std.proofs.Common.{◌≡◌, true, false, refl, ap, sym, subst, ◌∙◌, arith}
use Rattle.sag_time.specs.Interval.{Interval}
use Rattle.graph_check.specs.Checks.{covers_hull, first_broken, job_checks}
use Rattle.graph_check.specs.Comings.{HeldProgress}
use Rattle.graph_check.specs.Shown.{held_progress}
use Rattle.graph_check.proofs.JobLists.{length-entries}
use Rattle.graph_check.proofs.LineChecks.{job-k2, job-k9-hull, job-k9-order, job-k10, job-passes, marked-as, span-is, span-order}
use Rattle.graph_check.proofs.progress.Progress.job_clause.Goals as goal

pub returns-then-number-len : goal.returns-then-number-len
returns-then-number-len c =
    let a = c.args in
    let p = c.self.inside in
    let h = held_progress p in
    let all = length-entries p.jobs.spans.items p.jobs.marks.items c.self.invariant.2 in
    job-k2 h.table h.progress a.number a.lo a.hi a.mark (λ e. c.if-number-len.true (omega (arith, all, p.jobs.spans.ok.0, e)))
    ∙ ap (λ (k : HeldProgress). first_broken (job_checks k.table k.progress a.number (record { lo = a.lo; hi = a.hi }) a.mark)) c.self.view_is

pub returns-in_default : goal.returns-in_default
returns-in_default c =
    let a = c.args in
    let p = c.self.inside in
    let h = held_progress p in
    let all = length-entries p.jobs.spans.items p.jobs.marks.items c.self.invariant.2 in
    job-k9-order h.table h.progress a.number a.lo a.hi a.mark (omega (arith, all, p.jobs.spans.ok.0)) (c.in_default.ensures.none.0 refl)
    ∙ ap (λ (k : HeldProgress). first_broken (job_checks k.table k.progress a.number (record { lo = a.lo; hi = a.hi }) a.mark)) c.self.view_is

pub returns-then-not-covers : goal.returns-then-not-covers
returns-then-not-covers c =
    let a = c.args in
    let p = c.self.inside in
    let h = held_progress p in
    let all = length-entries p.jobs.spans.items p.jobs.marks.items c.self.invariant.2 in
    job-k9-hull h.table h.progress a.number a.lo a.hi a.mark (omega (arith, all, p.jobs.spans.ok.0)) (span-order c.new.result c.in-Some.span a.lo a.hi c.in-Some.is c.new.ensures.none) (subst (λ (s : Interval). covers_hull p.hulls a.number s ≡ false) (span-is c.in-Some.span a.lo a.hi c.in-Some.ensures.span.0 c.in-Some.ensures.span.1) (sym c.covers.ensures ∙ c.if-not-covers.true))
    ∙ ap (λ (k : HeldProgress). first_broken (job_checks k.table k.progress a.number (record { lo = a.lo; hi = a.hi }) a.mark)) c.self.view_is

pub returns-then-not-agree : goal.returns-then-not-agree
returns-then-not-agree c =
    let a = c.args in
    let p = c.self.inside in
    let h = held_progress p in
    let all = length-entries p.jobs.spans.items p.jobs.marks.items c.self.invariant.2 in
    job-k10 h.table h.progress a.number a.lo a.hi a.mark (omega (arith, all, p.jobs.spans.ok.0)) (span-order c.new.result c.in-Some.span a.lo a.hi c.in-Some.is c.new.ensures.none)
    (subst (λ (s : Interval). covers_hull p.hulls a.number s ≡ true) (span-is c.in-Some.span a.lo a.hi c.in-Some.ensures.span.0 c.in-Some.ensures.span.1) (sym c.covers.ensures ∙ c.if-not-covers.false))
    (marked-as false a.mark a.hi a.number c.is_ok.result c.deadline.result c.agree.result c.table.result.now h.table c.is_ok.ensures c.deadline.ensures c.agree.ensures c.table.ensures c.if-not-agree.true)
    ∙ ap (λ (k : HeldProgress). first_broken (job_checks k.table k.progress a.number (record { lo = a.lo; hi = a.hi }) a.mark)) c.self.view_is

pub returns : goal.returns
returns c =
    let a = c.args in
    let p = c.self.inside in
    let h = held_progress p in
    let all = length-entries p.jobs.spans.items p.jobs.marks.items c.self.invariant.2 in
    job-passes h.table h.progress a.number a.lo a.hi a.mark (omega (arith, all, p.jobs.spans.ok.0)) (span-order c.new.result c.in-Some.span a.lo a.hi c.in-Some.is c.new.ensures.none)
    (subst (λ (s : Interval). covers_hull p.hulls a.number s ≡ true) (span-is c.in-Some.span a.lo a.hi c.in-Some.ensures.span.0 c.in-Some.ensures.span.1) (sym c.covers.ensures ∙ c.if-not-covers.false))
    (marked-as true a.mark a.hi a.number c.is_ok.result c.deadline.result c.agree.result c.table.result.now h.table c.is_ok.ensures c.deadline.ensures c.agree.ensures c.table.ensures c.if-not-agree.false)
    ∙ ap (λ (k : HeldProgress). first_broken (job_checks k.table k.progress a.number (record { lo = a.lo; hi = a.hi }) a.mark)) c.self.view_is
