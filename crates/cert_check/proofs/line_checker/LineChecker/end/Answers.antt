use Rattle.std.proofs.Common.{◌≡◌, ◌++◌, ◌∷◌, [], List, Some, refl, subst}
use Rattle.cert_text.specs.declared.line.CertLine.{CertLine}
use Rattle.cert_text.specs.declared.line.CertLine.TheVariants as form
use Rattle.graph_check.specs.Kept.{HeldChecker, first_failure, kept}
use Rattle.graph_check.specs.Told.{entries_of}
use Rattle.cert_check.specs.Checks.{AcceptsAs}
use Rattle.cert_check.proofs.LineTakings.{fails}
use Rattle.cert_check.proofs.line_checker.LineChecker.end.Goals as goal

pub returns-in-Ok : goal.returns-in-Ok
returns-in-Ok c =
    subst (λ (h : HeldChecker). (front : List CertLine) → h.kept ≡ Some (kept h.table h.cores (front ++ form.End ∷ []))
    → AcceptsAs h.table h.cores (front ++ form.End ∷ []) (entries_of c.in-Ok.yes.spans.items c.in-Ok.yes.marks.items))
    c.self.view_is (λ front is. record {
      valid = (c.in-Ok.ensures.valid (front ++ form.End ∷ []) is).0 refl;
      jobs_are = c.in-Ok.ensures.jobs (front ++ form.End ∷ []) is;
      hold = c.in-Ok.ensures.sound;
    })

pub returns-in-Err-No : goal.returns-in-Err-No
returns-in-Err-No c =
    subst (λ (h : HeldChecker). (front : List CertLine) → h.kept ≡ Some (kept h.table h.cores (front ++ form.End ∷ []))
    → first_failure h.table h.cores (front ++ form.End ∷ []) ≡ Some (record { clause = c.in-Err-No.clause; line = c.in-Err-No.line }))
    c.self.view_is (λ front is. fails c.valid_is_kept.ensures c.valid_is_unbroken.ensures c.self.inside.checker front c.in-Err-No.field-0 c.in-Err-No.clause c.in-Err-No.line c.in-Err-No.field-0-is is c.in-Err-No.ensures.ends)
