use Rattle.std.proofs.Common.{arith}
use Rattle.sag_edge.proofs.WriteLemmas.{writes_on, writes_off, tells_still}
use Rattle.sag_edge.proofs.writing.write_whole.Goals as goal

pub loop-rest-preserved : goal.loop-rest-preserved
loop-rest-preserved g c = record {
  later = omega (arith, c.loop-rest.invariant.later, c.in-Ok.ensures.cause.later);
  tells = tells_still _ _ _ _ _ c.loop-rest.invariant.written c.loop-rest.invariant.tells c.in-Ok.ensures.tells;
  written = writes_on _ _ _ _ _ _ c.in-Ok.count c.loop-rest.invariant.written c.in-Ok.ensures.ok c.split_at.ensures.back;
}

pub returns-in-Err : goal.returns-in-Err
returns-in-Err g c = record {
  later = omega (arith, c.loop-rest.invariant.later, c.in-Err.ensures.cause.later);
  ok = tt;
  failed = (omega (arith, c.loop-rest.invariant.later, c.in-Err.ensures.cause.failed), writes_off _ _ _ _ _ c.loop-rest.invariant.written c.in-Err.ensures.failed);
  tells = tells_still _ _ _ _ _ c.loop-rest.invariant.written c.loop-rest.invariant.tells c.in-Err.ensures.tells;
}
