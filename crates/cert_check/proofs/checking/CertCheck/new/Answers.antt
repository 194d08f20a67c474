use Rattle.std.proofs.Common.{[], refl}
use Rattle.cert_check.proofs.LineTakings.{takes_none}
use Rattle.cert_check.proofs.checking.CertCheck.new.Goals as goal

pub returns-clause-start : goal.returns-clause-start
returns-clause-start c =
    let held = rw c.new.ensures.empty at c.new.ensures.start in
    rw c.new.ensures.empty (record {
      lines = [];
      has = record { version = refl; none_waits = refl; held = held; fit = tt; spelled = refl };
      took = takes_none c.in_ok-new.field-0;
    })
