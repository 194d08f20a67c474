-- What a checker keeps of the lines that it takes, and what their end gives.
use Rattle.std.proofs.Common.{◌≡◌, ◌∙◌, ℕ, ◌+◌, ◌<◌, ◌≤◌, ◌^◌, ◌++◌, ◌∷◌, List, [], Option, None, Some, Result, Ok, Err, ap, refl, sym, subst, append_assoc, append-nil, arith, IsOkAnd, IsNone, IfSome}
use Rattle.job_model.specs.Table.{Table}
use Rattle.cert_text.specs.declared.line.CertLine.{CertLine}
use Rattle.cert_text.specs.declared.line.CertLine.TheVariants as line
use Rattle.graph_check.specs.declared.answer.CheckAnswer.{CheckAnswer}
use Rattle.graph_check.specs.declared.answer.CheckAnswer.TheVariants as answer
use Rattle.graph_check.specs.declared.clause.Clause.{Clause}
use Rattle.graph_check.specs.declared.due.Due.{Due}
use Rattle.graph_check.specs.declared.due.Due.TheVariants as due
use Rattle.graph_check.specs.Answers.{Finishes, FinishesAt, IfProgress, IsProgressAnd, TellsKept}
use Rattle.graph_check.specs.Kept.{Failure, HeldChecker, failure_of, first_failure, kept}
use Rattle.graph_check.specs.Laws.{ValidIsKept, ValidIsUnbroken}
use Rattle.graph_check.specs.Progress.{Progress}
use Rattle.cert_text.specs.declared.fault.FeedFault.{FeedFault}
use Rattle.cert_text.specs.declared.fault.FeedFault.TheVariants as fault
use Rattle.cert_text.specs.Readable.{Readable}
use Rattle.cert_text.specs.Grammar.{second_version}
use Rattle.cert_stream.specs.Lines.{ClosesLines}
use Rattle.cert_check.specs.declared.cert_end.CertEnd.{CertEnd}
use Rattle.cert_check.specs.Checks.{EndsBytes, EndsLines, TakesLines, fresh_checker, checked_lines}

pub few_read : (k : Option (Result Progress Failure)) → checked_lines k < 2 ^ 63 → IfProgress k (λ r. r.lines < 2 ^ 63)
few_read (Some (Ok r)) few = few
few_read (Some (Err failure)) few = tt
few_read None few = tt

pub one_read : (k n : Option (Result Progress Failure)) → IfProgress n (λ now. IsProgressAnd k (λ before. now.lines ≡ before.lines + 1)) → checked_lines n ≤ checked_lines k + 1
one_read (Some (Ok r)) (Some (Ok s)) counted = omega (arith, counted)
one_read (Some (Err failure)) (Some (Ok s)) counted = absurd counted
one_read None (Some (Ok s)) counted = absurd counted
one_read k (Some (Err failure)) counted = omega arith
one_read k None counted = omega arith

taken_kept : (old : HeldChecker) (k : Option (Result Progress Failure)) (l : CertLine) (result : Result Unit CheckAnswer) (lines : List CertLine)
    → IfSome k (λ now. (lines : List CertLine) → old.kept ≡ Some (kept old.table old.cores lines) → now ≡ kept old.table old.cores (lines ++ l ∷ []))
    → TellsKept k result → (result ≡ Err answer.Memory → ⊥) → old.kept ≡ Some (kept old.table old.cores lines) → k ≡ Some (kept old.table old.cores (lines ++ l ∷ []))
taken_kept old (Some x) l result lines h tells some is = ap Some (h lines is)
taken_kept old None l result lines h tells some is = absurd (some tells)

-- one line more
pub takes_line : (first old new : HeldChecker) (lines : List CertLine) (l : CertLine) (result : Result Unit CheckAnswer) → TakesLines first lines old
    → new.table ≡ old.table → new.cores ≡ old.cores
    → IfSome new.kept (λ now. (lines : List CertLine) → old.kept ≡ Some (kept old.table old.cores lines) → now ≡ kept old.table old.cores (lines ++ l ∷ []))
    → TellsKept new.kept result → (result ≡ Err answer.Memory → ⊥) → TakesLines first (lines ++ l ∷ []) new
takes_line first old new lines l result t table cores h tells some = record {
  table = table ∙ t.table;
  cores = cores ∙ t.cores;
  kept_are = λ front is.
      let at : old.kept ≡ Some (kept old.table old.cores (front ++ lines)) = rw (t.table, t.cores) (t.kept_are front is) in
      let on : new.kept ≡ Some (kept old.table old.cores ((front ++ lines) ++ l ∷ [])) = taken_kept old new.kept l result (front ++ lines) h tells some at in
      let here : new.kept ≡ Some (kept first.table first.cores ((front ++ lines) ++ l ∷ [])) = rw (t.table, t.cores) at on in
      here ∙ ap (λ (xs : List CertLine). Some (kept first.table first.cores xs)) (append_assoc front lines (l ∷ []));
}

-- ---- the end

no_end : (r : Progress) (clause : Clause) (at : ℕ) → r.due ≡ due.Nothing → Finishes (Some (Ok r)) (Err (answer.No clause at)) → ⊥
no_end r clause at over ends = subst (λ (d : Due). FinishesAt r d (Err (answer.No clause at))) over ends

-- a failure at the end of lines of which the last is an end line is the first
fails_at : (kept_law : ValidIsKept) (unbroken : ValidIsUnbroken) (table : Table) (m : ℕ) (front : List CertLine) (k : Result Progress Failure) (clause : Clause) (at : ℕ)
    → k ≡ kept table m (front ++ line.End ∷ []) → Finishes (Some k) (Err (answer.No clause at))
    → first_failure table m (front ++ line.End ∷ []) ≡ Some (record { clause = clause; line = at })
fails_at kept_law unbroken table m front (Err failure) clause at is ends =
    let clause_is : clause ≡ failure.clause = cc ends in
    let at_is : at ≡ failure.line = cc ends in
    rw (clause_is, at_is) (ap failure_of (sym is))
fails_at kept_law unbroken table m front (Ok r) clause at is ends =
    let none : IsNone (first_failure table m (front ++ line.End ∷ [])) = subst (λ (x : Result Progress Failure). IsNone (failure_of x)) is refl in
    let valid = (unbroken table m front).1 none in
    let over : r.due ≡ due.Nothing = subst (λ (x : Result Progress Failure). IsOkAnd x (λ r. r.due ≡ due.Nothing)) (sym is) ((kept_law table m (front ++ line.End ∷ [])).0 valid) in
    absurd (no_end r clause at over ends)

pub fails : (kept_law : ValidIsKept) (unbroken : ValidIsUnbroken) (held : HeldChecker) (front : List CertLine) (x : CheckAnswer) (clause : Clause) (at : ℕ) → x ≡ answer.No clause at
    → held.kept ≡ Some (kept held.table held.cores (front ++ line.End ∷ [])) → Finishes held.kept (Err x)
    → first_failure held.table held.cores (front ++ line.End ∷ []) ≡ Some (record { clause = clause; line = at })
fails kept_law unbroken held front (answer.No c l) clause at same is ends =
    let clause_is : c ≡ clause = cc same in
    let at_is : l ≡ at = cc same in
    let at_lines : Finishes (Some (kept held.table held.cores (front ++ line.End ∷ []))) (Err (answer.No c l)) = subst (λ (k : Option (Result Progress Failure)). Finishes k (Err (answer.No c l))) is ends in
    rw (← clause_is, ← at_is) (fails_at kept_law unbroken held.table held.cores front (kept held.table held.cores (front ++ line.End ∷ [])) c l refl at_lines)
fails kept_law unbroken held front answer.Memory clause at same is ends = absurd cc

-- no line was taken yet
pub takes_none : (held : HeldChecker) → TakesLines held [] held
takes_none held = record { table = refl; cores = refl; kept_are = λ front is. is ∙ ap (λ (xs : List CertLine). Some (kept held.table held.cores xs)) (sym (append-nil front)) }

ends_of : (table : Table) (m : ℕ) (bytes : List ℕ) (lines : List CertLine) (result : Result CertEnd FeedFault) → Readable second_version bytes lines → EndsLines table m lines result → EndsBytes table m bytes result
ends_of table m bytes lines (Ok end) readable ends = record { lines = lines; readable = readable; checked = ends }
ends_of table m bytes lines (Err (fault.Text l b)) readable ends = absurd ends
ends_of table m bytes lines (Err fault.Memory) readable ends = tt

-- the end of the bytes is that of the lines
pub ends_bytes : (table : Table) (m : ℕ) (bytes : List ℕ) (lines : List CertLine) (held : HeldChecker) (result : Result CertEnd FeedFault) → Readable second_version bytes lines
    → TakesLines (fresh_checker table m) lines held
    → ((front : List CertLine) → held.kept ≡ Some (kept held.table held.cores (front ++ line.End ∷ [])) → EndsLines held.table held.cores (front ++ line.End ∷ []) result)
    → EndsBytes table m bytes result
ends_bytes table m bytes lines held result r took ends =
    let front = r.head ∷ r.inner in
    let is : held.kept ≡ Some (kept table m (front ++ line.End ∷ [])) = took.kept_are [] refl ∙ ap (λ (xs : List CertLine). Some (kept table m xs)) r.are in
    let at : held.kept ≡ Some (kept held.table held.cores (front ++ line.End ∷ [])) = rw (took.table, took.cores) is in
    let whole : EndsLines held.table held.cores lines result = subst (λ (xs : List CertLine). EndsLines held.table held.cores xs result) (sym r.are) (ends front at) in
    let here : EndsLines table m lines result =
    subst (λ (t : Table). EndsLines t m lines result) took.table (subst (λ (n : ℕ). EndsLines held.table n lines result) took.cores whole) in
    ends_of table m bytes lines result r here

-- so is a text fault
pub ends_wrong : (table : Table) (m : ℕ) (bytes : List ℕ) (lines : List CertLine) (x : FeedFault) → ClosesLines second_version bytes lines (Err x) → EndsBytes table m bytes (Err x)
ends_wrong table m bytes lines (fault.Text l b) closes = closes
ends_wrong table m bytes lines fault.Memory closes = absurd closes
