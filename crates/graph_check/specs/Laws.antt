-- Laws of certificates.
--     FailureIsFirst       a failure is at the first line that breaks a clause
--     ValidIsKept          lines are valid exactly where all of them pass, and no other is due
--     ValidIsUnbroken      lines with the end line are valid exactly where none breaks a clause
--     KeptAreSpans         of valid lines, what is kept of the jobs are their intervals and marks
--     OldIsValid           lines of the old version that are valid by its steps are valid
--     JobEntriesAreSpans   the intervals and marks of a certificate are those of its job lines
--     SpansHold            the intervals and marks of a valid certificate hold in each legal run
--     YesIsSound           so do those that are kept where all lines have passed and no other is due
use Rattle.std.specs.Prelude.{◌≡◌, ℕ, List, [], ◌∷◌, ◌++◌, ◌+◌, ◌↔◌, length, IsNone, IsOkAnd, Some, Ok}
use Rattle.job_model.specs.Table.{Table, IsTable}
use Rattle.cert_text.specs.declared.line.CertLine.{CertLine}
use Rattle.cert_text.specs.declared.line.CertLine.TheVariants as line
use Rattle.graph_check.specs.declared.due.Due.TheVariants as due
use Rattle.graph_check.specs.Certificate.{Certificate, lines_of}
use Rattle.graph_check.specs.Valid.{KeepsClauses, Valid}
use Rattle.graph_check.specs.Old.{OldValid}
use Rattle.graph_check.specs.Bounds.{HoldInEachRun}
use Rattle.graph_check.specs.Progress.{Progress}
use Rattle.graph_check.specs.Checks.{first_broken, due_checks}
use Rattle.graph_check.specs.Told.{job_entries}
use Rattle.graph_check.specs.Kept.{Failure, kept, first_failure}

-- A failure is at a line that breaks the clause, after lines that break none.
abbrev pub FailureIsFirst : Type 0
FailureIsFirst =
    (table : Table) (m : ℕ) (lines : List CertLine) (failure : Failure) → first_failure table m lines ≡ Some failure →
    (front : List CertLine) × (broken : CertLine) × (rest : List CertLine) × (lines ≡ front ++ broken ∷ rest)
    × (failure.line ≡ length front + 1)
    × IsOkAnd (kept table m front) (λ r. first_broken (due_checks table m r r.due broken) ≡ Some failure.clause)

-- The lines are valid exactly where all of them pass and no other is due.
abbrev pub ValidIsKept : Type 0
ValidIsKept = (table : Table) (m : ℕ) (lines : List CertLine) → Valid table m lines ↔ IsOkAnd (kept table m lines) (λ r. r.due ≡ due.Nothing)

-- Lines that end with an end line are valid exactly where none breaks a clause.
abbrev pub ValidIsUnbroken : Type 0
ValidIsUnbroken =
    (table : Table) (m : ℕ) (lines : List CertLine) → Valid table m (lines ++ line.End ∷ []) ↔ IsNone (first_failure table m (lines ++ line.End ∷ []))

-- Of the lines of a certificate that keeps the clauses, the jobs kept are its spans.
abbrev pub KeptAreSpans : Type 0
KeptAreSpans = (table : Table) (m : ℕ) (c : Certificate) → KeepsClauses table m c → IsOkAnd (kept table m (lines_of c)) (λ r. r.jobs ≡ c.spans)

-- Lines of the old version that are valid by its steps are valid.
abbrev pub OldIsValid : Type 0
OldIsValid = (table : Table) (m : ℕ) (lines : List CertLine) → OldValid table m lines → Valid table m lines

-- The intervals and marks of a certificate are those of its job lines.
abbrev pub JobEntriesAreSpans : Type 0
JobEntriesAreSpans = (c : Certificate) → job_entries (lines_of c) ≡ c.spans

-- In each legal run of every scenario, each job finishes within its interval of a valid certificate, and by its deadline where its mark is ok.
abbrev pub SpansHold : Type 0
SpansHold = (table : Table) (m : ℕ) (c : Certificate) → IsTable table → KeepsClauses table m c → HoldInEachRun table m c.spans

-- So it does within the interval that is kept of it, once all lines have passed and no other is due.
abbrev pub YesIsSound : Type 0
YesIsSound =
    (table : Table) (m : ℕ) (lines : List CertLine) (r : Progress) → IsTable table → kept table m lines ≡ Ok r → r.due ≡ due.Nothing →
    HoldInEachRun table m r.jobs
