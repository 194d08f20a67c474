use Rattle.std.proofs.Common.{arith}
use Rattle.cert_check.proofs.JobLines.{count_is}
use Rattle.cert_check.proofs.answer_texts.count_of.Goals as goal

pub returns-clause-count : goal.returns-clause-count
returns-clause-count c = omega (arith, count_is c.args.yes.now.spans.items c.args.yes.now.marks.items, c.len.ensures, c.len-2.ensures, c.min.ensures)
