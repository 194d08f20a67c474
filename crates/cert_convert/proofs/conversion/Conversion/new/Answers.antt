use Rattle.std.proofs.Common.{[], refl, sym}
use Rattle.std.proofs.lemmas.List.{append-nil}
use Rattle.cert_convert.proofs.conversion.Conversion.new.Goals as goal

pub returns-clause-start : goal.returns-clause-start
returns-clause-start c =
    let held = rw c.old.ensures.empty at c.old.ensures.start in
    rw c.old.ensures.empty (record {
      lines = [];
      has = record { version = refl; none_waits = refl; held = held; fit = tt; spelled = refl };
      took = sym (append-nil c.new.result);
    })
