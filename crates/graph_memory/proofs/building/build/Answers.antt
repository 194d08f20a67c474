use Rattle.std.proofs.Common.{◌≡◌, ◌∙◌, arith}
use Rattle.graph_memory.proofs.Built.{goes-up}
use Rattle.graph_memory.proofs.building.build.Goals as goal

pub loop-preserved : goal.loop-preserved
loop-preserved c =
    let up =
    goes-up c.args.table.now c.args.cores c.loop.builder c.loop.levels.items c.loop.invariant.0 c.in_default.field-0 c.next_level.new.self c.keep_level-in-loop.new.levels.items c.loop.counter
    c.in_default.ensures.up c.in_default.ensures.last c.loop.invariant.1 (omega (arith, c.len-end.ensures.count)) c.in_ok-keep_level-2.ensures in
    (up.0, up.1, up.2 ∙ c.loop.invariant.2)
