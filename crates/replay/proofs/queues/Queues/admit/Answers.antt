use Rattle.std.proofs.Common.{◌∷◌, refl, subst, arith, heap_items}
use Rattle.std.specs.Prelude.{IsPermutation}
use Rattle.replay.proofs.Queued.{IsMoved-more}
use Rattle.replay.proofs.queues.Queues.admit.Goals as goal

pub loop-next-preserved : goal.loop-next-preserved
loop-next-preserved c =
    let waiting = heap_items c.loop-next.self-inside.waiting in
    IsMoved-more c.args.table.now c.args.now c.args.self.now waiting (heap_items c.push.new.self)
    (heap_items c.loop-next.self-inside.later) (heap_items c.pop.new.self) c.loop-next.self-inside.readiness.items c.loop-next.invariant
    c.in-Some.field-0.now.0 (omega (arith, c.if-next-now.true)) c.in-Some.ensures.lookup
    (subst (λ key. IsPermutation (record { 0 = key } ∷ waiting) (heap_items c.push.new.self)) c.of-key.ensures c.in_ok-push.ensures.permutation)
    c.in_ok-push.ensures.heap_order
    c.pop.result (c.pop.ensures.variant.1 (c.in-Some.ensures.variant.0 refl))
    c.pop.ensures.top c.pop.ensures.permutation c.pop.ensures.heap_order
