-- Lines with the end line are valid exactly where none breaks a clause.
use Rattle.std.proofs.Common.{◌≡◌, ℕ, List, [], ◌∷◌, ◌++◌, refl, None, Ok, Err}
use Rattle.std.specs.Prelude.{IsOkAnd, IsNone, Result}
use Rattle.job_model.specs.Table.{Table}
use Rattle.cert_text.specs.declared.line.CertLine.{CertLine}
use Rattle.cert_text.specs.declared.line.CertLine.TheVariants as line
use Rattle.graph_check.specs.declared.due.Due.{Due}
use Rattle.graph_check.specs.declared.due.Due.TheVariants as due
use Rattle.graph_check.specs.Progress.{Progress, before_first_line}
use Rattle.graph_check.specs.Checks.{first_broken, due_checks}
use Rattle.graph_check.specs.Kept.{Failure, kept, failure_of}
use Rattle.graph_check.specs.Laws as law
use Rattle.graph_check.proofs.Steps.{Leaves, leaves-from_step, leaves-after_step, passes-first, next_progress, step-passed}
use Rattle.graph_check.proofs.PassedLines.{with_end, end_passes}
use Rattle.graph_check.proofs.Walk.{IsOver}
use Rattle.graph_check.proofs.Whole.{valid_is_kept}

abbrev Always : Progress → Type 0
Always r = Unit {0}

module _ (table : Table) (m : ℕ) where
  end-due : (r : Progress) (d : Due) → first_broken (due_checks table m r d line.End) ≡ None → d ≡ due.End
  end-due r due.End passes = refl
  end-due r other passes = cc

  -- once the end line has passed, no line is due
  over : (lines : List CertLine) (r : Progress) → Leaves table m Always r (lines ++ line.End ∷ []) → Leaves table m (IsOver table m) r (lines ++ line.End ∷ [])
  over [] r leaves =
      let end_due = end-due r r.due (passes-first table m Always r line.End [] leaves) in
      leaves-from_step table m (IsOver table m) r (with_end table m r) line.End [] (end_passes table m r end_due) refl
  over (l ∷ ls) r leaves =
      let passes = step-passed table m r l (passes-first table m Always r l (ls ++ line.End ∷ []) leaves) in
      let later = leaves-after_step table m Always r (next_progress table m r l) l (ls ++ line.End ∷ []) passes leaves in
      leaves-from_step table m (IsOver table m) r (next_progress table m r l) l (ls ++ line.End ∷ []) passes (over ls (next_progress table m r l) later)

no-failure : (P : Progress → Type 0) (k : Result Progress Failure) → IsOkAnd k P → IsNone (failure_of k)
no-failure P (Ok r) p = refl
no-failure P (Err failure) p = absurd p

ok-from_none : (k : Result Progress Failure) → IsNone (failure_of k) → IsOkAnd k Always
ok-from_none (Ok r) none = tt
ok-from_none (Err failure) none = cc

pub valid_is_unbroken : law.ValidIsUnbroken
valid_is_unbroken table m lines =
    let all = lines ++ line.End ∷ [] in (
      λ valid. no-failure (λ r. r.due ≡ due.Nothing) (kept table m all) ((valid_is_kept table m all).0 valid),
      λ none. (valid_is_kept table m all).1 (over table m lines (before_first_line table) (ok-from_none (kept table m all) none)),
    )
