use Rattle.std.proofs.Common.{subst, sym, ◌∙◌, arith}
use Rattle.start_windows.specs.Eligible.{IsFront}
use Rattle.start_windows.proofs.Fronts.{IsFront-more, front-all, front-at}
use Rattle.start_windows.proofs.front.front_from.Goals as goal

pub returns-then-not-has-clause-front : goal.returns-then-not-has-clause-front
returns-then-not-has-clause-front c =
    front-at c.args.table.now c.args.set.now.members c.by_release-order.result.now c.by_release-order.ensures.order c.by_release-order.ensures.rising c.loop-place.place c.index-order-place.result c.loop-place.invariant (omega arith)
    c.index-order-place.is (sym c.has.ensures.member ∙ c.if-not-has.true)

pub loop-place-preserved : goal.loop-place-preserved
loop-place-preserved c =
    IsFront-more c.args.table.now c.args.set.now.members c.by_release-order.result.now c.by_release-order.ensures.order c.by_release-order.ensures.rising c.loop-place.place c.index-order-place.result c.loop-place.invariant (omega arith)
    c.index-order-place.is (sym c.has.ensures.member ∙ c.if-not-has.false)

pub returns-clause-front : goal.returns-clause-front
returns-clause-front c =
    c.len.ensures.count ∙ (front-all c.args.table.now c.args.set.now.members c.by_release-order.result.now c.by_release-order.ensures.order c.by_release-order.ensures.rising c.loop-place.place c.loop-place.invariant (omega arith)).1

pub returns-clause-is_front : goal.returns-clause-is_front
returns-clause-is_front c =
    subst (IsFront c.args.table.now c.args.set.now.members) (sym c.len.ensures.count)
    (front-all c.args.table.now c.args.set.now.members c.by_release-order.result.now c.by_release-order.ensures.order c.by_release-order.ensures.rising c.loop-place.place c.loop-place.invariant (omega arith)).0
