-- What a checker keeps and answers.
--     IfProgress, IfFailure, IsProgressAnd      of a checker that keeps a progress, or a failure
--     KeptOfLines table m kept      a progress that is kept is that of some lines
--     TellsKept kept result             the answer of a line tells what is kept
--     Finishes kept result              what the end of the lines gives
--     kept_of answer progress        what is kept where there is such an answer
--     answer_at broken line         the answer where a line is not taken
use Rattle.std.specs.Prelude.{◌≡◌, ℕ, ◌+◌, List, map, IsOk, Option, Some, None, Result, Ok, Err}
use Rattle.job_model.specs.Table.{Table}
use Rattle.cert_text.specs.declared.line.CertLine.{CertLine}
use Rattle.graph_check.specs.declared.clause.Clause.TheVariants.{K2}
use Rattle.graph_check.specs.declared.due.Due.{Due}
use Rattle.graph_check.specs.declared.due.Due.TheVariants as due
use Rattle.graph_check.specs.declared.answer.Broken.{Broken}
use Rattle.graph_check.specs.declared.answer.Broken.TheVariants as broken
use Rattle.graph_check.specs.declared.answer.CheckAnswer.{CheckAnswer}
use Rattle.graph_check.specs.declared.answer.CheckAnswer.TheVariants as answer
use Rattle.graph_check.specs.declared.answer.Yes.{Yes}
use Rattle.graph_check.specs.Entries.{JobEntry}
use Rattle.graph_check.specs.Progress.{Progress}
use Rattle.graph_check.specs.Kept.{Failure, kept}

-- of a checker that keeps a progress
abbrev pub IfProgress : Option (Result Progress Failure) → (Progress → Type 0) → Type 0
IfProgress (Some (Ok r)) P = P r
IfProgress other P = Unit {0}

-- a progress is kept, and of it
abbrev pub IsProgressAnd : Option (Result Progress Failure) → (Progress → Type 0) → Type 0
IsProgressAnd (Some (Ok r)) P = P r
IsProgressAnd other P = ⊥

-- a progress that is kept is that of some lines
abbrev pub KeptOfLines : Table → ℕ → Option (Result Progress Failure) → Type 0
KeptOfLines table m held = IfProgress held (λ r. (lines : List CertLine) × (kept table m lines ≡ Ok r))

-- of a checker that keeps a failure
abbrev pub IfFailure : Option (Result Progress Failure) → Type 0 → Type 0
IfFailure (Some (Err failure)) P = P
IfFailure other P = Unit {0}

-- The answer of a line tells what is kept: a failure, or want of memory.
abbrev pub TellsKept : Option (Result Progress Failure) → Result Unit CheckAnswer → Type 0
TellsKept (Some (Ok r)) result = IsOk result
TellsKept (Some (Err failure)) result = result ≡ Err (answer.No failure.clause failure.line)
TellsKept None result = result ≡ Err answer.Memory

-- the answer is yes, with the intervals and marks of these entries
abbrev pub SaysYes : List JobEntry → Result Yes CheckAnswer → Type 0
SaysYes jobs (Ok told) = (told.spans.items ≡ map (λ s. s.span) jobs) × (told.marks.items ≡ map (λ s. s.mark) jobs)
SaysYes jobs (Err other) = ⊥

-- What the end of the lines gives: yes where no line is due, and no where one is, at the line that is not there.
abbrev pub FinishesAt : Progress → Due → Result Yes CheckAnswer → Type 0
FinishesAt r due.Nothing result = SaysYes r.jobs result
FinishesAt r other result = result ≡ Err (answer.No K2 (r.lines + 1))

-- what the end of the lines gives, of whatever is kept
abbrev pub Finishes : Option (Result Progress Failure) → Result Yes CheckAnswer → Type 0
Finishes (Some (Ok r)) result = FinishesAt r r.due result
Finishes (Some (Err failure)) result = result ≡ Err (answer.No failure.clause failure.line)
Finishes None result = result ≡ Err answer.Memory

-- ---- in memory

-- what a checker keeps: its answer, where it has one, or else the progress
abbrev pub kept_of : Option CheckAnswer → Progress → Option (Result Progress Failure)
kept_of None r = Some (Ok r)
kept_of (Some (answer.No clause line)) r = Some (Err (record { clause = clause; line = line }))
kept_of (Some answer.Memory) r = None

-- the answer where a line is not taken
abbrev pub answer_at : Broken → ℕ → CheckAnswer
answer_at (broken.Clause clause) line = answer.No clause line
answer_at broken.Memory line = answer.Memory
