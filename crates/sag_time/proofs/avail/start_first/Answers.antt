use Rattle.std.proofs.Common.{◌≡◌, ◌<◌, length, arith, ◌∙◌}
use Rattle.sag_time.proofs.Carried.{carried_step, carried_all, is_sorted-others}
use Rattle.sag_time.proofs.avail.start_first.Goals as goal

pub loop-i-preserved : goal.loop-i-preserved
loop-i-preserved c =
    let below : c.loop-i.i < length c.loop-i.times = omega arith in
    record {
      so_far =
          carried_step c.args.floor c.loop-i.carry c.loop-i.i c.max-free.result c.min.result c.max-carry.result c.loop-i.times c.loop-i.auto.i below
          c.loop-i.invariant.others_sorted c.max-free.ensures c.min.ensures c.max-carry.ensures
          ∙ c.loop-i.invariant.so_far;
      others_sorted = is_sorted-others c.loop-i.i c.min.result c.loop-i.times c.loop-i.invariant.others_sorted;
    }

pub returns : goal.returns
returns c =
    let last : c.loop-i.i ≡ length c.loop-i.times = omega arith in
    carried_all c.args.floor c.loop-i.carry c.loop-i.i c.loop-i.times (omega arith) last ∙ c.loop-i.invariant.so_far
