use Rattle.std.proofs.Common.{ap, Err}
use Rattle.sag_engine.proofs.PlanLemmas.{long_file}
use Rattle.sag_engine.proofs.fetch.fetch.Goals as goal

pub returns-in-Err-TooLong : goal.returns-in-Err-TooLong
returns-in-Err-TooLong g c = record {
  contents = c.read_all.ensures.contents;
  later = c.read_all.ensures.later;
  end = rw c.new.ensures (long_file _ c.args.kind c.args.name c.args.limit (c.in-Err-TooLong.ensures.too_long (ap Err c.in-Err-TooLong.field-0-is)));
}
