use Rattle.std.proofs.Common.{◌≡◌, ◌∷◌, ◌+◌, List, ℕ, drop, sym, ap, ◌∙◌, arith}
use Rattle.std.specs.Map.{keys_of}
use Rattle.std.proofs.lemmas.Option.{slice_get_within}
use Rattle.job_sets.specs.Subset.{with_number}
use Rattle.sag_time.specs.Interval.{Interval}
use Rattle.sag_step.specs.Tracks.{lists_tracked}
use Rattle.lists.proofs.Elements.{drop_next}
use Rattle.sag_step.proofs.TracksNext.{below_next, comes_first, new-later}
use Rattle.sag_step.proofs.tracking.tracks_next.Goals as goal

pub returns-in_default : goal.returns-in_default
returns-in_default c =
    let below = sym c.is_below_at.ensures ∙ c.loop-place-test.true in
    let next = below_next c.args.job c.args.from.now.items c.loop-place.at c.at.result c.at.ensures.item below in
    sym (c.loop-place.invariant.left ∙ ap (lists_tracked c.args.table.now c.args.set.now.members c.args.ends.now.items c.loop-place.place) next
    ∙ c.in_default.ensures.none (with_number c.args.job (keys_of (drop (c.loop-place.at + 1) c.args.from.now.items))))

pub loop-place-preserved : goal.loop-place-preserved
loop-place-preserved c =
    let below = sym c.is_below_at.ensures ∙ c.loop-place-test.true in
    let next = below_next c.args.job c.args.from.now.items c.loop-place.at c.at.result c.at.ensures.item below in
    let within = slice_get_within c.args.from.now.items c.loop-place.at c.at.result c.at.ensures.item in
    record {
      reached = omega (arith, within);
      within = c.in-Some.ensures.some.within;
      left = c.loop-place.invariant.left ∙ ap (lists_tracked c.args.table.now c.args.set.now.members c.args.ends.now.items c.loop-place.place) next
          ∙ c.in-Some.ensures.some.goes_on (with_number c.args.job (keys_of (drop (c.loop-place.at + 1) c.args.from.now.items)));
    }

pub returns-in_default-pass_job : goal.returns-in_default-pass_job
returns-in_default-pass_job c =
    let first = comes_first c.args.job (drop c.loop-place.at c.args.from.now.items) (sym c.is_below_at.ensures ∙ c.loop-place-test.false) (new-later c.args.job c.args.from.now.items c.loop-place.at c.requires.new) in
    sym (c.loop-place.invariant.left ∙ ap (lists_tracked c.args.table.now c.args.set.now.members c.args.ends.now.items c.loop-place.place) first
    ∙ c.in_default-pass_job.ensures.none (keys_of (drop c.loop-place.at c.args.from.now.items)))

pub loop-later-init : goal.loop-later-init
loop-later-init c =
    let first = comes_first c.args.job (drop c.loop-place.at c.args.from.now.items) (sym c.is_below_at.ensures ∙ c.loop-place-test.false) (new-later c.args.job c.args.from.now.items c.loop-place.at c.requires.new) in
    record {
      within = c.in-Some-pass_job.ensures.some.within;
      left = c.loop-place.invariant.left ∙ ap (lists_tracked c.args.table.now c.args.set.now.members c.args.ends.now.items c.loop-place.place) first
          ∙ c.in-Some-pass_job.ensures.some.goes_on (keys_of (drop c.loop-place.at c.args.from.now.items));
    }

pub returns-in_default-pass_job-2 : goal.returns-in_default-pass_job-2
returns-in_default-pass_job-2 c =
    let next : drop c.loop-later.later c.args.from.now.items ≡ c.at-in-loop-later.result ∷ drop (c.loop-later.later + 1) c.args.from.now.items = drop_next c.args.from.now.items c.loop-later.later c.at-in-loop-later.result c.at-in-loop-later.ensures.item in
    sym (c.loop-later.invariant.left ∙ ap (λ (q : List (ℕ × Interval)). lists_tracked c.args.table.now c.args.set.now.members c.args.ends.now.items c.loop-later.behind (keys_of q)) next
    ∙ c.in_default-pass_job-2.ensures.none (keys_of (drop (c.loop-later.later + 1) c.args.from.now.items)))

pub loop-later-preserved : goal.loop-later-preserved
loop-later-preserved c =
    let next : drop c.loop-later.later c.args.from.now.items ≡ c.at-in-loop-later.result ∷ drop (c.loop-later.later + 1) c.args.from.now.items = drop_next c.args.from.now.items c.loop-later.later c.at-in-loop-later.result c.at-in-loop-later.ensures.item in
    record {
      within = c.in-Some-pass_job-2.ensures.some.within;
      left = c.loop-later.invariant.left ∙ ap (λ (q : List (ℕ × Interval)). lists_tracked c.args.table.now c.args.set.now.members c.args.ends.now.items c.loop-later.behind (keys_of q)) next
          ∙ c.in-Some-pass_job-2.ensures.some.goes_on (keys_of (drop (c.loop-later.later + 1) c.args.from.now.items));
    }
