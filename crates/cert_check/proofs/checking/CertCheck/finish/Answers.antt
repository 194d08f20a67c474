use Rattle.std.proofs.Common.{Err, List, Ok, ℕ, subst, sym}
use Rattle.cert_text.specs.declared.grammar.Grammar.{Grammar}
use Rattle.cert_text.specs.declared.line.CertLine.{CertLine}
use Rattle.cert_stream.specs.Lines.{ClosesLines, HasLines}
use Rattle.cert_check.specs.Checks.{SeenCheck, TakesBytes, fresh_check}
use Rattle.cert_check.proofs.LineTakings.{ends_bytes, ends_wrong}
use Rattle.cert_check.proofs.checking.CertCheck.finish.Goals as goal

pub returns-in-Ok : goal.returns-in-Ok
returns-in-Ok c table m bytes checks =
    let h = subst (λ (s : SeenCheck). TakesBytes (fresh_check table m) bytes s) (sym c.self.view_is) checks in
    let closes = subst (λ (g : Grammar). (bytes : List ℕ) (lines : List CertLine) → HasLines g bytes c.self.inside.reader lines → ClosesLines g bytes lines (Ok tt)) c.self.invariant.0 c.in-Ok.ensures in
    ends_bytes table m bytes h.lines c.self.inside.lines c.end.result (closes bytes h.lines h.has) h.took c.end.ensures

pub returns-in-Err : goal.returns-in-Err
returns-in-Err c table m bytes checks =
    let h = subst (λ (s : SeenCheck). TakesBytes (fresh_check table m) bytes s) (sym c.self.view_is) checks in
    let closes = subst (λ (g : Grammar). (bytes : List ℕ) (lines : List CertLine) → HasLines g bytes c.self.inside.reader lines → ClosesLines g bytes lines (Err c.in-Err.fault)) c.self.invariant.0 c.in-Err.ensures in
    ends_wrong table m bytes h.lines c.in-Err.fault (closes bytes h.lines h.has)
