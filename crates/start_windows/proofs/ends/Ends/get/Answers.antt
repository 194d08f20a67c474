use Rattle.std.proofs.Common.{ℕ, List, ap, rules, sym, ◌∙◌}
use Rattle.std.proofs.lemmas.List.Sorted.{answers_always}
use Rattle.sag_time.specs.Interval.{Interval}
use Rattle.start_windows.specs.Ends.{HeldEnds, end_of}
use Rattle.start_windows.proofs.EndLists.{end_of-searched, end_of-missed}
use Rattle.start_windows.proofs.ends.Ends.get.Goals as goal

pub returns-in_err-place-clause-end : goal.returns-in_err-place-clause-end
returns-in_err-place-clause-end c =
    let by_number = c.binary_search_by_key.ensures.position (λ e. e.0) (answers_always _ _ _ (λ f a r g called. search rules)) in
    let missed = end_of-missed _ (rw c.deref.ensures.value c.self.invariant.0.rising) c.job.inside.0 c.binary_search_by_key.result by_number (sym c.ok.ensures.value ∙ c.in_err-place.was) in
    let same = ap (λ (h : HeldEnds). end_of h.items c.job.inside.0) c.self.view_is ∙ ap (end_of c.args.self.now.items) c.job.view_is in
    c.from_residual.ensures ∙ sym missed ∙ ap (λ (l : List (ℕ × Interval)). end_of l c.job.inside.0) c.deref.ensures.value ∙ same

pub returns-clause-end : goal.returns-clause-end
returns-clause-end c =
    let by_number = c.binary_search_by_key.ensures.position (λ e. e.0) (answers_always _ _ _ (λ f a r g called. search rules)) in
    let found = end_of-searched _ (rw c.deref.ensures.value c.self.invariant.0.rising) c.job.inside.0 c.in_ok-place.place c.index.result.now c.binary_search_by_key.result c.binary_search_by_key.ensures.bound by_number
    (sym c.ok.ensures.value ∙ c.in_ok-place.was) (rw c.deref.ensures.value (sym c.index.ensures)) in
    let same = ap (λ (h : HeldEnds). end_of h.items c.job.inside.0) c.self.view_is ∙ ap (end_of c.args.self.now.items) c.job.view_is in
    sym found ∙ ap (λ (l : List (ℕ × Interval)). end_of l c.job.inside.0) c.deref.ensures.value ∙ same
