use Rattle.std.proofs.Common.{◌≡◌, ◌∙◌, ◌+◌, ◌<◌, ◌≤◌, ℕ, Bool, arith, ap, length, sym}
use Rattle.std.specs.Prelude.{◌==◌}
use Rattle.std.specs.List.{count_by}
use Rattle.std.specs.Map.{keys_of}
use Rattle.std.proofs.lemmas.List.{length-map, take_all}
use Rattle.std.proofs.lemmas.List.Sums.{count_by_more_no, count_by_more_yes}
use Rattle.sag_time.specs.Interval.{Interval}
use Rattle.job_sets.specs.Subset.{is_member}
use Rattle.job_sets.proofs.Filters.{counted_within}
use Rattle.sag_step.proofs.CutEnds.{item-has, key-at}
use Rattle.sag_step.proofs.tracking.lists_all.Goals as goal
use Rattle.sag_step.proofs.tracking.lists_all.Goals.{then-has, else-has}

pub has-requires : goal.has-requires
has-requires c = item-has (λ e. e.0 < c.args.set.now.size) c.args.ends.now.items c.loop-place.place c.at.result c.at.ensures.item c.requires

pub loop-place-preserved : goal.loop-place-preserved
loop-place-preserved c =
    let ks = keys_of c.args.ends.now.items in
    let p : ℕ → Bool = λ k. is_member k c.args.set.now.members in
    let i = c.loop-place.place in
    let at = key-at c.args.ends.now.items i c.at.result c.at.ensures.item in
    elim c.if-has.branch [
      | then-has w ↦ record {
        count = w.count-is ∙ ap (λ n. n + 1) c.loop-place.invariant.count ∙ sym (count_by_more_yes p ks i 0 at.0 (ap p at.1 ∙ sym c.has.ensures.member ∙ w.if-has.true));
        fewer = omega (arith, w.count-is, c.loop-place.invariant.fewer);
      }
      | else-has w ↦ record {
        count = w.count-is ∙ c.loop-place.invariant.count ∙ sym (count_by_more_no p ks i 0 at.0 (ap p at.1 ∙ sym c.has.ensures.member ∙ w.if-has.false));
        fewer = omega (arith, w.count-is, c.loop-place.invariant.fewer);
      }
    ]

pub returns-clause-within : goal.returns-clause-within
returns-clause-within c =
    let ks = keys_of c.args.ends.now.items in
    let xs = c.args.set.now.members in
    let long : length ks ≤ c.loop-place.place = omega (arith, length-map c.args.ends.now.items (λ (e : ℕ × Interval). e.0), c.loop-place-test.false, c.len-place-end.ensures.count) in
    let count : c.loop-place.count ≡ count_by (λ k. is_member k xs) ks = c.loop-place.invariant.count ∙ ap (count_by (λ k. is_member k xs)) (take_all c.loop-place.place ks long) in
    (λ k. count k == c.count.ensures.count k) ∙ counted_within xs ks c.count.ensures.subset.rising c.len-place-end.ensures.ends.rising
