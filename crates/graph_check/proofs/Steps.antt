-- One line more: it passes its checks, or it breaks a clause, and the failure stays.
use Rattle.std.proofs.Common.{◌≡◌, ℕ, ◌+◌, List, [], ◌∷◌, ◌++◌, length, refl, sym, ap, ◌∙◌, subst, arith, Option, Some, None, Ok, Err}
use Rattle.std.specs.Prelude.{IsOkAnd}
use Rattle.std.specs.List.{fold}
use Rattle.std.specs.Option.{option_map_or}
use Rattle.std.proofs.lemmas.List.Folds.{fold_stays}
use Rattle.job_model.specs.Table.{Table}
use Rattle.cert_text.specs.declared.line.CertLine.{CertLine}
use Rattle.graph_check.specs.declared.clause.Clause.{Clause}
use Rattle.graph_check.specs.Progress.{Progress, before_first_line}
use Rattle.graph_check.specs.Checks.{first_broken, due_checks}
use Rattle.graph_check.specs.Kept.{Failure, after_line, with_line, failure_of}
use Rattle.graph_check.specs.Laws as law

module _ (table : Table) (m : ℕ) where
  -- what is kept after a line that passes
  abbrev pub next_progress : Progress → CertLine → Progress
  next_progress r l = record (after_line table r l) { lines = r.lines + 1 }

  abbrev failure_at : Progress → Clause → Failure
  failure_at r clause = record { clause = clause; line = r.lines + 1 }

  -- all lines pass, and P is said of what they leave
  abbrev pub Leaves : (Progress → Type 0) → Progress → List CertLine → Type 0
  Leaves P r lines = IsOkAnd (fold (with_line table m) (Ok r) lines) P

  failed_stays : (failure : Failure) (lines : List CertLine) → fold (with_line table m) (Err failure) lines ≡ Err failure
  failed_stays failure lines = fold_stays (with_line table m) (Err failure) (λ l. refl) lines

  pub leaves-from_step : (P : Progress → Type 0) (r next : Progress) (l : CertLine) (lines : List CertLine) → with_line table m (Ok r) l ≡ Ok next → Leaves P next lines →
      Leaves P r (l ∷ lines)
  leaves-from_step P r next l lines passes leaves = subst (λ k. IsOkAnd (fold (with_line table m) k lines) P) (sym passes) leaves

  pub leaves-after_step : (P : Progress → Type 0) (r next : Progress) (l : CertLine) (lines : List CertLine) → with_line table m (Ok r) l ≡ Ok next → Leaves P r (l ∷ lines) →
      Leaves P next lines
  leaves-after_step P r next l lines passes leaves = subst (λ k. IsOkAnd (fold (with_line table m) k lines) P) passes leaves

  -- the same of a line that is another
  pub leaves-from_line : (P : Progress → Type 0) (r next : Progress) (l k : CertLine) (lines : List CertLine) → l ≡ k → with_line table m (Ok r) k ≡ Ok next →
      Leaves P next lines → Leaves P r (l ∷ lines)
  leaves-from_line P r next l k lines l_is passes leaves = subst (λ x. Leaves P r (x ∷ lines)) (sym l_is) (leaves-from_step P r next k lines passes leaves)

  pub leaves-after_line : (P : Progress → Type 0) (r next : Progress) (l k : CertLine) (lines : List CertLine) → l ≡ k → with_line table m (Ok r) k ≡ Ok next →
      Leaves P r (l ∷ lines) → Leaves P next lines
  leaves-after_line P r next l k lines l_is passes leaves = leaves-after_step P r next k lines passes (subst (λ x. Leaves P r (x ∷ lines)) l_is leaves)

  -- where all lines pass, the first does
  pub passes-first : (P : Progress → Type 0) (r : Progress) (l : CertLine) (lines : List CertLine) → Leaves P r (l ∷ lines) → first_broken (due_checks table m r r.due l) ≡ None
  passes-first P r l lines leaves = at (first_broken (due_checks table m r r.due l)) leaves
    where
      at : (o : Option Clause) → IsOkAnd (fold (with_line table m) (option_map_or (λ clause. Err (failure_at r clause)) o (Ok (next_progress r l))) lines) P → o ≡ None
      at None leaves = refl
      at (Some clause) leaves = absurd (subst (λ k. IsOkAnd k P) (failed_stays (failure_at r clause) lines) leaves)

  pub step-passed : (r : Progress) (l : CertLine) → first_broken (due_checks table m r r.due l) ≡ None → with_line table m (Ok r) l ≡ Ok (next_progress r l)
  step-passed r l is = rw is refl

  -- the first line that breaks a clause, after so many
  record Breaks (r : Progress) (lines : List CertLine) (failure : Failure) : Type 0 where
    front : List CertLine
    broken : CertLine
    rest : List CertLine
    are : lines ≡ front ++ broken ∷ rest
    at_line : failure.line ≡ r.lines + length front + 1
    clause : Leaves (λ q. first_broken (due_checks table m q q.due broken) ≡ Some failure.clause) r front

  breaks : (lines : List CertLine) (r : Progress) (failure : Failure) → failure_of (fold (with_line table m) (Ok r) lines) ≡ Some failure → Breaks r lines failure
  breaks [] r failure fails = cc
  breaks (l ∷ lines) r failure fails = at (first_broken (due_checks table m r r.due l)) refl (breaks lines (next_progress r l) failure) fails
    where
      at : (o : Option Clause) → first_broken (due_checks table m r r.due l) ≡ o →
          (failure_of (fold (with_line table m) (Ok (next_progress r l)) lines) ≡ Some failure → Breaks (next_progress r l) lines failure) →
          failure_of (fold (with_line table m) (option_map_or (λ clause. Err (failure_at r clause)) o (Ok (next_progress r l))) lines) ≡ Some failure → Breaks r (l ∷ lines) failure
      at None is later fails =
          let b = later fails in
          let passes = step-passed r l is in
          record {
            front = l ∷ b.front;
            broken = b.broken;
            rest = b.rest;
            are = ap (λ k. l ∷ k) b.are;
            at_line = omega (arith, b.at_line);
            clause = leaves-from_step (λ q. first_broken (due_checks table m q q.due b.broken) ≡ Some failure.clause) r (next_progress r l) l b.front passes b.clause;
          }
      at (Some clause) is later fails =
          let here : failure_of (Err (failure_at r clause)) ≡ Some failure = sym (ap failure_of (failed_stays (failure_at r clause) lines)) ∙ fails in
          let same : failure_at r clause ≡ failure = cc in
          record {
            front = [];
            broken = l;
            rest = lines;
            are = refl;
            at_line = sym (ap (λ f. f.line) same) ∙ (omega arith);
            clause = is ∙ ap (λ f. Some f.clause) same;
          }

pub failure_is_first : law.FailureIsFirst
failure_is_first table m lines failure fails =
    let b = breaks table m lines (before_first_line table) failure fails in
    (b.front, b.broken, b.rest, b.are, omega (arith, b.at_line), b.clause)
