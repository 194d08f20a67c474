-- What a checker keeps after a line, by the step of its progress.
use Rattle.std.proofs.Common.{◌≡◌, ℕ, ◌+◌, List, [], ◌∷◌, ◌++◌, ◌<◌, ◌^◌, Option, Some, None, Result, Ok, Err, refl, ap, sym, ◌∙◌, subst}
use Rattle.std.specs.Prelude.{IfSome, IsSomeAnd}
use Rattle.std.specs.List.{fold}
use Rattle.std.specs.Option.{option_map_or}
use Rattle.job_model.specs.Table.{Table}
use Rattle.cert_text.specs.declared.line.CertLine.{CertLine}
use Rattle.graph_check.specs.declared.answer.Broken.{Broken}
use Rattle.graph_check.specs.declared.answer.Broken.TheVariants as broken
use Rattle.graph_check.specs.Progress.{Progress, before_first_line}
use Rattle.graph_check.specs.declared.clause.Clause.{Clause}
use Rattle.graph_check.specs.declared.answer.CheckAnswer.{CheckAnswer}
use Rattle.graph_check.specs.Checks.{first_broken, due_checks}
use Rattle.graph_check.specs.Kept.{Failure, HeldChecker, after_line, kept, with_line}
use Rattle.graph_check.specs.Answers.{IfProgress, IsProgressAnd, answer_at, kept_of}
use Rattle.graph_check.specs.Comings.{StepsOn}

-- one line more
kept-more : (table : Table) (m : ℕ) (a : Result Progress Failure) (lines : List CertLine) (l : CertLine) → fold (with_line table m) a (lines ++ l ∷ []) ≡ with_line table m (fold (with_line table m) a lines) l
kept-more table m a [] l = refl
kept-more table m a (k ∷ lines) l = kept-more table m (with_line table m a k) lines l

abbrev pub Steps : HeldChecker → CertLine → Option (Result Progress Failure) → Type 0
Steps old l new = IfSome new (λ now. IsSomeAnd old.kept (λ before. now ≡ with_line old.table old.cores before l))

abbrev pub KeepsOn : HeldChecker → CertLine → Option (Result Progress Failure) → Type 0
KeepsOn old l new = IfSome new (λ now. (lines : List CertLine) → old.kept ≡ Some (kept old.table old.cores lines) → now ≡ kept old.table old.cores (lines ++ l ∷ []))

-- the lines that led to what was kept, with this one
pub keeps-on : (old : HeldChecker) (l : CertLine) (new : Option (Result Progress Failure)) → Steps old l new → KeepsOn old l new
keeps-on old l None steps = tt
keeps-on old l (Some now) steps =
    λ lines e.
    let before = subst (λ o. IsSomeAnd o (λ before. now ≡ with_line old.table old.cores before l)) e steps in
    before ∙ sym (kept-more old.table old.cores (Ok (before_first_line old.table)) lines l)

-- the progress after a line is that of the lines with it
pub kept-next : (table : Table) (m : ℕ) (r new : Progress) (l : CertLine) (lines : List CertLine) → kept table m lines ≡ Ok r → StepsOn table m r l (Ok (tt {0})) new →
    kept table m (lines ++ l ∷ []) ≡ Ok new
unfolding StepsOn
kept-next table m r new l lines is steps =
    kept-more table m (Ok (before_first_line table)) lines l ∙ ap (λ (k : Result Progress Failure). with_line table m k l) is ∙ steps

module _ (old : HeldChecker) (l : CertLine) (table : Table) (m : ℕ) (r : Progress) (is : record { table = table; cores = m; kept = Some (Ok r) } ≡ old) where
  pub stepped-ok : (new : Progress) → StepsOn table m r l (Ok (tt {0})) new → Steps old l (Some (Ok new))
  unfolding StepsOn
  stepped-ok new steps = subst (λ (o : HeldChecker). Steps o l (Some (Ok new))) is (sym steps)

  pub stepped-err : (e : Broken) (new : Progress) (q : Progress) (number : ℕ) → number ≡ r.lines + 1 → StepsOn table m r l (Err e) new → Steps old l (kept_of (Some (answer_at e number)) q)
  unfolding StepsOn
  stepped-err (broken.Clause clause) new q number at steps =
      subst (λ (o : HeldChecker). Steps o l (Some (Err (record { clause = clause; line = number })))) is (ap (λ n. Err (record { clause = clause; line = n })) at ∙ sym steps)
  stepped-err broken.Memory new q number at steps = tt

-- where there is no answer yet
pub open-view : (table : Table) (m : ℕ) (r : Progress) (answer : Option CheckAnswer) (old : HeldChecker) → answer ≡ None →
    record { table = table; cores = m; kept = kept_of answer r } ≡ old → record { table = table; cores = m; kept = Some (Ok r) } ≡ old
open-view table m r answer old none is = subst (λ a. ◌≡◌ {A = HeldChecker} (record { table = table; cores = m; kept = kept_of a r }) old) none is

pub few-lines : (table : Table) (m : ℕ) (r : Progress) (old : HeldChecker) → record { table = table; cores = m; kept = Some (Ok r) } ≡ old →
    IfProgress old.kept (λ progress. progress.lines < 2 ^ 63) → r.lines < 2 ^ 63
few-lines table m r old is few = subst (λ (o : HeldChecker). IfProgress o.kept (λ progress. progress.lines < 2 ^ 63)) (sym is) few

-- the count of lines
step-by : (table : Table) (r new : Progress) (l : CertLine) (o : Option Clause) →
    option_map_or {U = Result Progress Failure} (λ clause. Err (record { clause = clause; line = r.lines + 1 })) o (Ok (record (after_line table r l) { lines = r.lines + 1 })) ≡ Ok new → new.lines ≡ r.lines + 1
step-by table r new l None e = sym (ap (λ (k : Result Progress Failure). lines-in k) e)
  where
    lines-in : Result Progress Failure → ℕ
    lines-in (Ok q) = q.lines
    lines-in (Err failure) = 0
step-by table r new l (Some clause) e = absurd (cc)

pub step-lines : (table : Table) (m : ℕ) (r new : Progress) (l : CertLine) → StepsOn table m r l (Ok (tt {0})) new → new.lines ≡ r.lines + 1
unfolding StepsOn
step-lines table m r new l steps = step-by table r new l (first_broken (due_checks table m r r.due l)) steps

-- a progress comes after a progress
pub counted : (old : HeldChecker) (l : CertLine) (new : Option (Result Progress Failure)) → Steps old l new →
    IfProgress new (λ now. IsProgressAnd old.kept (λ before. now.lines ≡ before.lines + 1))
counted old l None steps = tt
counted old l (Some (Err failure)) steps = tt
counted old l (Some (Ok now)) steps = by-kept old.kept steps
  where
    by-kept : (k : Option (Result Progress Failure)) → IsSomeAnd k (λ before. Ok now ≡ with_line old.table old.cores before l) → IsProgressAnd k (λ before. now.lines ≡ before.lines + 1)
    by-kept None steps = steps
    by-kept (Some (Err failure)) steps = cc
    by-kept (Some (Ok r)) steps = step-by old.table r now l (first_broken (due_checks old.table old.cores r r.due l)) (sym steps)
