use Rattle.std.proofs.Common.{ℕ, List, ap, rules, sym, ◌∙◌}
use Rattle.std.specs.Prelude.{is_some}
use Rattle.std.specs.Map.{keys_of}
use Rattle.std.proofs.lemmas.List.Sorted.{answers_always}
use Rattle.job_sets.specs.Subset.{is_member}
use Rattle.sag_time.specs.Interval.{Interval}
use Rattle.start_windows.specs.Ends.{HeldEnds}
use Rattle.start_windows.proofs.EndLists.{end_of-missed, is_some-end_of, place-searched}
use Rattle.start_windows.proofs.ends.Ends.place_of.Goals as goal

pub returns-in_err-place-clause-missing : goal.returns-in_err-place-clause-missing
returns-in_err-place-clause-missing c =
    let by_number = c.binary_search_by_key.ensures.position (λ e. e.0) (answers_always _ _ _ (λ f a r g called. search rules)) in
    let missed = end_of-missed _ (rw c.deref.ensures.value c.self.invariant.0.rising) c.job.inside.0 c.binary_search_by_key.result by_number (sym c.ok.ensures.value ∙ c.in_err-place.was) in
    let out = sym (is_some-end_of c.deref.result.now c.job.inside.0) ∙ ap is_some missed in
    let is = sym (ap (λ (l : List (ℕ × Interval)). is_member c.job.inside.0 (keys_of l)) c.deref.ensures.value
    ∙ ap (λ (h : HeldEnds). is_member c.job.inside.0 (keys_of h.items)) c.self.view_is
    ∙ ap (λ n. is_member n (keys_of c.args.self.now.items)) c.job.view_is)
    ∙ out in
    rw c.from_residual.ensures is

pub returns-clause-place : goal.returns-clause-place
returns-clause-place c =
    let by_number = c.binary_search_by_key.ensures.position (λ e. e.0) (answers_always _ _ _ (λ f a r g called. search rules)) in
    rw (sym c.job.view_is, sym (ap (λ (h : HeldEnds). h.items) c.self.view_is), sym c.deref.ensures.value)
    (place-searched _ (rw c.deref.ensures.value c.self.invariant.0.rising) c.job.inside.0 c.in_ok-place.place c.binary_search_by_key.result c.binary_search_by_key.ensures.bound by_number
    (sym c.ok.ensures.value ∙ c.in_ok-place.was))
