use Rattle.cert_text.proofs.Begins.{begins_behind}
use Rattle.cert_text.proofs.write.put_pairs.Goals as goal

pub returns-in_err-put_pair-clause-begins : goal.returns-in_err-put_pair-clause-begins
returns-in_err-put_pair-clause-begins c = begins_behind c.args.into.now.items c.loop-pair.into.items _ c.put_pair.new.into.items c.loop-pair.invariant c.put_pair.ensures.begins
