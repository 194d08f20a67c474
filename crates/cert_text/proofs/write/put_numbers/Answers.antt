use Rattle.cert_text.proofs.Begins.{begins_behind}
use Rattle.cert_text.proofs.write.put_numbers.Goals as goal

pub returns-in_err-put_last_item-clause-begins : goal.returns-in_err-put_last_item-clause-begins
returns-in_err-put_last_item-clause-begins c = begins_behind c.args.into.now.items c.loop-number.into.items _ c.put_last_item.new.into.items c.loop-number.invariant c.put_last_item.ensures.begins
