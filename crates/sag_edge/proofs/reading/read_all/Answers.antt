use Rattle.std.proofs.Common.{arith}
use Rattle.sag_edge.proofs.ReadLemmas.{begins, splits_long}
use Rattle.sag_edge.proofs.reading.read_all.Goals as goal

pub loop-room-init : goal.loop-room-init
loop-room-init g c = record {
  read = rw c.new-list.ensures.items (begins _ _ _ c.begin.ensures.contents c.begin.ensures.cause.later c.in-Ok.ensures.ok);
  left = omega (arith, c.new-list.ensures.len);
  piece = c.in_ok-piece.ensures;
}

pub returns-clause-too_long : goal.returns-clause-too_long
returns-clause-too_long g c _ = splits_long _ _ _ _ _ c.loop-room.invariant.read.bytes (omega (arith, c.loop-room.invariant.left))
