use Rattle.cert_text.proofs.Begins.{begins_behind}
use Rattle.cert_text.proofs.write.put_ends.Goals as goal

pub returns-in_err-put_end-clause-begins : goal.returns-in_err-put_end-clause-begins
returns-in_err-put_end-clause-begins c = begins_behind c.args.into.now.items c.loop-end.into.items _ c.put_end.new.into.items c.loop-end.invariant c.put_end.ensures.begins
