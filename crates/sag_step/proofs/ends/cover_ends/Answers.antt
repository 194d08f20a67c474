use Rattle.std.proofs.Common.{◌&&◌, ◌+◌, ◌∙◌, sym, ap, drop}
use Rattle.std.specs.Cmp.Lexicographic.{pointwise}
use Rattle.sag_step.specs.Widen.{end_covers}
use Rattle.sag_step.proofs.ListsOfEnds.{covers_next, same_rest}
use Rattle.sag_step.proofs.ends.cover_ends.Goals as goal

pub returns-then-not-covers : goal.returns-then-not-covers
returns-then-not-covers c =
    let rest = pointwise end_covers (drop (c.loop-place.place + 1) c.args.wide.now.items) (drop (c.loop-place.place + 1) c.args.narrow.now.items) in
    sym (c.loop-place.invariant.left
    ∙ covers_next c.args.wide.now.items c.args.narrow.now.items c.loop-place.place _ _ c.at-outer.ensures.item c.at-inner.ensures.item c.loop-place.invariant.jobs
    ∙ ap (λ b. b && rest) (sym c.if-not-covers.ensures))

pub loop-place-preserved : goal.loop-place-preserved
loop-place-preserved c =
    let wide = c.args.wide.now.items in
    let narrow = c.args.narrow.now.items in
    let rest = pointwise end_covers (drop (c.loop-place.place + 1) wide) (drop (c.loop-place.place + 1) narrow) in
    record {
      jobs = same_rest wide narrow c.loop-place.place _ _ c.at-outer.ensures.item c.at-inner.ensures.item c.loop-place.invariant.jobs;
      left =
          c.loop-place.invariant.left
          ∙ covers_next wide narrow c.loop-place.place _ _ c.at-outer.ensures.item c.at-inner.ensures.item c.loop-place.invariant.jobs
          ∙ ap (λ b. b && rest) (sym c.if-not-covers.ensures);
    }
