use Rattle.std.proofs.Common.{◌∙◌, ◌++◌, ◌+◌, ◌≤◌, ap, sym, subst, drop, length}
use Rattle.start_windows.specs.Ends.{HeldEnds}
use Rattle.sag_step.proofs.ListsOfEnds.{is_above-next, whole_next}
use Rattle.lists.proofs.Elements.{drop_next}
use Rattle.sag_step.proofs.ends.assign_ends.Goals as goal

pub put-requires-clause-above : goal.put-requires-clause-above
put-requires-clause-above c =
    let items = c.args.from.now.items in
    let rest = drop (c.loop-place.place + 1) items in
    is_above-next c.loop-place.into.items c.at-job.result rest items
    (ap (λ xs. c.loop-place.into.items ++ xs) (sym (drop_next items c.loop-place.place c.at-job.result c.at-job.ensures.item)) ∙ c.loop-place.invariant.whole)
    c.len.ensures.ends.rising

pub loop-place-preserved : goal.loop-place-preserved
loop-place-preserved c =
    let items = c.args.from.now.items in
    record {
      whole =
          ap (λ (h : HeldEnds). h.items ++ drop (c.loop-place.place + 1) items) c.put.ensures
          ∙ whole_next c.loop-place.into.items items items c.loop-place.place c.at-job.result c.at-job.ensures.item c.loop-place.invariant.whole;
      room = subst (λ (h : HeldEnds). length items ≤ h.room) (sym c.put.ensures) c.loop-place.invariant.room;
    }
