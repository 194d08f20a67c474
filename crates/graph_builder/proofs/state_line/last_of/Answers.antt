use Rattle.std.proofs.Common.{◌≡◌, ℕ, Bool, ◌++◌, ◌∷◌, ◌+◌, ◌≤◌, [], ap, append_assoc, arith, drop, filter, length, subst, sym, ◌∙◌}
use Rattle.std.specs.Map.{keys_of}
use Rattle.job_sets.specs.Subset.{Subset, is_member}
use Rattle.start_windows.specs.Ends.{HeldEnds}
use Rattle.lists.proofs.Elements.{drop_next}
use Rattle.graph_builder.proofs.StateLineLemmas.{key_below, last_next, last_whole}
use Rattle.graph_builder.proofs.TextLemmas.{all_moved, dropped}
use Rattle.graph_builder.proofs.state_line.last_of.Goals as goal

pub keep_last-requires : goal.keep_last-requires
keep_last-requires c =
    let s = c.args.state.now.state in
    let items : c.ends-ends.result.now.items ≡ s.ends = ap (λ (h : HeldEnds). h.items) c.ends-ends.ensures in
    let size = c.last-last.ensures.size in
    let below = key_below s.set.size s.ends c.loop-place.place c.at-job.result c.requires.in_range (rw (← items) c.at-job.ensures.item) in
    omega (arith, below, size)

pub loop-place-preserved : goal.loop-place-preserved
loop-place-preserved c =
    let items = c.ends-ends.result.now.items in
    let place = c.loop-place.place in
    let e = c.at-job.result in
    let p : ℕ → Bool = λ j. is_member j c.last-last.result.now.members in
    let rest = filter p (keys_of (drop (place + 1) items)) in
    ap (λ l. l ++ rest) c.in_ok-keep_last.ensures
    ∙ append_assoc c.loop-place.list (filter p (e.0 ∷ [])) rest
    ∙ ap (λ l. c.loop-place.list ++ l) (sym (ap (λ es. filter p (keys_of es)) (drop_next items place e c.at-job.ensures.item) ∙ last_next p e.0 (keys_of (drop (place + 1) items))))
    ∙ c.loop-place.invariant

pub returns : goal.returns
returns c =
    let s = c.args.state.now.state in
    let items = c.ends-ends.result.now.items in
    let own : items ≡ s.ends = ap (λ (h : HeldEnds). h.items) c.ends-ends.ensures in
    let p : ℕ → Bool = λ j. is_member j c.last-last.result.now.members in
    let past : length items ≤ c.loop-place.place = omega (arith, c.loop-place-test.false, c.len-place-end.ensures.count) in
    all_moved c.loop-place.list (filter p (keys_of (drop c.loop-place.place items))) (filter p (keys_of items)) (ap (λ es. filter p (keys_of es)) (dropped c.loop-place.place items past)) c.loop-place.invariant
    ∙ ap (λ es. filter p (keys_of es)) own
    ∙ ap (λ (l : Subset). filter (λ j. is_member j l.members) (keys_of s.ends)) c.last-last.ensures.last
    ∙ last_whole s c.requires (rw own at c.len-place-end.ensures.ends.rising)
