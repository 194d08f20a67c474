use Rattle.std.proofs.Common.{◌≡◌, ◌∙◌, ◌++◌, ◌+◌, ◌<◌, ℕ, List, ap, arith, length, take, drop, set}
use Rattle.std.specs.Map.{keys_of}
use Rattle.std.proofs.lemmas.List.{length-set, drop-set-lt}
use Rattle.sag_time.specs.Interval.{Interval}
use Rattle.lists.specs.Zipped.{zip_with}
use Rattle.start_windows.specs.Ends.{HeldEnds}
use Rattle.sag_step.specs.Widen.{end_hull}
use Rattle.sag_step.proofs.ListsOfEnds.{key_at, same_rest, widened_next}
use Rattle.sag_step.proofs.ends.widen_ends.Goals as goal

pub loop-place-preserved : goal.loop-place-preserved
loop-place-preserved c =
    let now = c.loop-place.ends.items in
    let other = c.args.other.now.items in
    let i = c.loop-place.place in
    let own = c.at-own.result in
    let more = c.at-more.result in
    let key = key_at now i own c.at-own.ensures.item in
    let written : c.set_span.new.self.items ≡ set now i (end_hull own more) =
    ap (λ (h : HeldEnds). h.items) c.set_span.ensures ∙ (λ k. set now i (key k, c.hull.ensures k)) in
    let next : i < i + 1 = omega arith in
    record {
      jobs =
          ap (λ (es : List (ℕ × Interval)). keys_of (drop (i + 1) es)) written ∙ ap keys_of (drop-set-lt (i + 1) now i (end_hull own more) next)
          ∙ same_rest now other i own more c.at-own.ensures.item c.at-more.ensures.item c.loop-place.invariant.jobs;
      hulls =
          ap (λ (es : List (ℕ × Interval)). take (i + 1) es ++ zip_with end_hull (drop (i + 1) es) (drop (i + 1) other)) written
          ∙ widened_next now other i own more c.at-own.ensures.item c.at-more.ensures.item c.loop-place.invariant.jobs _ c.loop-place.invariant.hulls;
      count = ap (λ (es : List (ℕ × Interval)). length es) written ∙ length-set now i (end_hull own more) ∙ c.loop-place.invariant.count;
      room = ap (λ (h : HeldEnds). h.room) c.set_span.ensures ∙ c.loop-place.invariant.room;
    }
