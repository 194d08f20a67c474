use Rattle.std.proofs.Common.{refl}
use Rattle.cert_text.proofs.feed.take_lf.Goals as goal

pub returns-in-Err-Wrong : goal.returns-in-Err-Wrong
returns-in-Err-Wrong c = λ s. let e = rw c.in-Err-Wrong.field-0-is at c.in-Err-Wrong.ensures in (refl, e s)
