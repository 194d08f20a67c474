use Rattle.std.proofs.Common.{arith}
use Rattle.cert_text.proofs.HoldsMore.{stands_short}
use Rattle.cert_text.proofs.ReaderClauses.{close_ok, close_lacks}
use Rattle.cert_text.proofs.reader.CertReader.close.Goals as goal

pub returns-then-self-clause-closes : goal.returns-then-self-clause-closes
returns-then-self-clause-closes c =
    let r = c.self.inside in
    close_ok c.self.invariant.3 c.args.self r.fault r.lines r.ended r.draft r.spot r.at r.waiting c.self.view_is c.if-self.true c.self.invariant.0

pub overflow_add-result-else-self : goal.overflow_add-result-else-self
overflow_add-result-else-self c =
    let r = c.self.inside in
    omega (arith, stands_short c.self.invariant.3 r.lines r.ended r.draft r.spot r.at c.self.invariant.0)

pub returns-clause-closes : goal.returns-clause-closes
returns-clause-closes c =
    let r = c.self.inside in
    close_lacks c.self.invariant.3 c.args.self r.fault r.lines r.ended r.draft r.spot r.at r.waiting c.self.view_is c.if-self.false c.self.invariant.0
