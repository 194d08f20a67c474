use Rattle.std.proofs.Common.{◌≡◌, true, false, ap, sym, subst, ◌∙◌}
use Rattle.std.specs.Bool.{beq}
use Rattle.std.specs.List.{list_all}
use Rattle.graph_check.specs.Comings.{HeldProgress}
use Rattle.graph_check.specs.Entries.{is_ok_mark}
use Rattle.graph_check.specs.Shown.{held_progress}
use Rattle.graph_check.proofs.JobLists.{entries-ok}
use Rattle.graph_check.proofs.LineChecks.{verdict-as, verdict-k11, verdict-passes}
use Rattle.graph_check.proofs.progress.Progress.verdict_clause.Goals as goal

pub returns-then-not-agree : goal.returns-then-not-agree
returns-then-not-agree c =
    let p = c.self.inside in
    let h = held_progress p in
    let all = c.are_all_ok.ensures ∙ ap (λ ms. list_all is_ok_mark ms) c.deref.ensures.value ∙ sym (entries-ok p.jobs.spans.items p.jobs.marks.items c.self.invariant.2) in
    verdict-k11 _ (subst (λ (k : HeldProgress). beq (is_ok_mark c.args.mark) (list_all (λ s. is_ok_mark s.mark) k.progress.jobs) ≡ false) c.self.view_is
    (verdict-as false c.args.mark h.progress.jobs c.is_ok.result c.are_all_ok.result c.agree.result c.is_ok.ensures all c.agree.ensures c.if-not-agree.true))

pub returns : goal.returns
returns c =
    let p = c.self.inside in
    let h = held_progress p in
    let all = c.are_all_ok.ensures ∙ ap (λ ms. list_all is_ok_mark ms) c.deref.ensures.value ∙ sym (entries-ok p.jobs.spans.items p.jobs.marks.items c.self.invariant.2) in
    verdict-passes _ (subst (λ (k : HeldProgress). beq (is_ok_mark c.args.mark) (list_all (λ s. is_ok_mark s.mark) k.progress.jobs) ≡ true) c.self.view_is
    (verdict-as true c.args.mark h.progress.jobs c.is_ok.result c.are_all_ok.result c.agree.result c.is_ok.ensures all c.agree.ensures c.if-not-agree.false))
