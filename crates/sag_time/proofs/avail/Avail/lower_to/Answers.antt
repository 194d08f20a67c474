use Rattle.std.proofs.Common.{min, arith}
use Rattle.sag_time.proofs.ZippedInPlace.{zipped_turn, zipped_keeps}
use Rattle.sag_time.proofs.ZippedLists.{is_sorted-zip_min}
use Rattle.sag_time.proofs.avail.Avail.lower_to.Goals as goal

pub loop-i-preserved : goal.loop-i-preserved
loop-i-preserved c =
    zipped_turn min c.args.self.now c.args.other.now c.requires c.loop-i.i c.min.result c.index.result.now c.self.inside.times.items c.other.inside.times.items
    c.deref_mut-time-items.result.now c.loop-i.time-items c.self.view_is c.other.view_is c.deref_mut-time-items.ensures.value (omega (arith, c.loop-i-test.true))
    c.loop-i.invariant c.index.ensures c.min.ensures

pub invariant_of-self : goal.invariant_of-self
invariant_of-self c =
    zipped_keeps min c.args.self.now c.args.other.now c.requires is_sorted-zip_min c.loop-i.i c.self.inside.times.len c.self.inside.times.items c.other.inside.times.items
    c.deref_mut-time-items.result.now c.loop-i.time-items c.self.view_is c.other.view_is c.deref_mut-time-items.ensures.value
    (omega (arith, c.loop-i-test.false, c.loop-i.auto.i-end)) (omega (arith, c.loop-i.auto.time-items, c.deref_mut-time-items.ensures.len)) c.loop-i.invariant
    c.self.invariant.0 c.other.invariant.0 c.self.invariant.1
