use Rattle.std.proofs.Common.{◌∙◌, arith}
use Rattle.cert_stream.proofs.TakenLines.{took_all, took_more}
use Rattle.cert_stream.proofs.feeding.feed_lines.Goals as goal

pub loop-rest-preserved : goal.loop-rest-preserved
loop-rest-preserved g c = record {
  version = c.feed_line.ensures.version ∙ c.loop-rest.invariant.version;
  none = c.in-Ok.ensures.none;
  lines = omega (arith, c.loop-rest.invariant.lines, c.in-Ok.ensures.lines, c.in-Ok.ensures.goes, c.in-Ok.ensures.bound, c.split_at.ensures.back_len);
  count = omega (arith, c.loop-rest.invariant.count, c.in-Ok.ensures.count, c.in-Ok.ensures.goes, c.in-Ok.ensures.bound, c.split_at.ensures.back_len);
  read = took_more _ _ _ c.in-Ok.count _ _ _ c.loop-rest.invariant.read c.in-Ok.ensures.read c.split_at.ensures.back;
}

pub returns-clause-read : goal.returns-clause-read
returns-clause-read g c = took_all _ _ _ _ c.loop-rest.invariant.read (grind (arith, c.is_empty.ensures, c.loop-rest-test.ensures))
