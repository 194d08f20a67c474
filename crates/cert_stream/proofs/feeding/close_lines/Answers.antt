use Rattle.cert_stream.proofs.TakenLines.{closes_lines}
use Rattle.cert_stream.proofs.feeding.close_lines.Goals as goal

pub returns : goal.returns
returns c bytes lines h = closes_lines c.args.reader.grammar c.spelled_lines.ensures c.args.reader bytes lines c.close.result h c.close.ensures.kept c.close.ensures.closes
