-- A certificate that is checked as its bytes come.
--     SeenCheck                        what is seen of a check: what its reader and its checker hold
--     checked_lines kept               how many lines a checker counts
--     fresh_checker, fresh_check       a checker before the first line, a check before the first byte
--     TakesLines start lines now       a checker came from start to now by taking the lines
--     TakesBytes start bytes now       a check came from start to now by taking the bytes
--     end_told end                     the intervals and marks, or the failure
--     AcceptsAs table m lines jobs     the lines are valid, with these intervals and marks, and these hold in each legal run
--     CheckedAs table m lines end      what lines come to: those of a valid certificate, or the first failure
--     ReadsAs table m bytes end        the bytes are readable, and their lines come to this
--     EndsLines, EndsBytes             what the end of the lines, or of the bytes, gives
use Rattle.std.specs.Prelude.{ℕ, ◌≡◌, ◌++◌, List, [], false, Option, None, Some, Result, Ok, Err}
use Rattle.job_model.specs.Table.{Table}
use Rattle.cert_text.specs.declared.fault.FeedFault.{FeedFault}
use Rattle.cert_text.specs.declared.fault.FeedFault.TheVariants as fault
use Rattle.cert_text.specs.declared.line.CertLine.{CertLine}
use Rattle.cert_text.specs.Grammar.{second_version}
use Rattle.cert_text.specs.Readable.{Readable}
use Rattle.cert_text.specs.Reader.{HeldReader}
use Rattle.cert_text.specs.Taken.{Open}
use Rattle.cert_stream.specs.Lines.{AfterBytes, IsTextFault}
use Rattle.graph_check.specs.Bounds.{HoldInEachRun}
use Rattle.graph_check.specs.Entries.{JobEntry}
use Rattle.graph_check.specs.Kept.{Failure, HeldChecker, first_failure, kept}
use Rattle.graph_check.specs.Progress.{Progress, before_first_line}
use Rattle.graph_check.specs.Told.{entries_of, job_entries}
use Rattle.graph_check.specs.Valid.{Valid}
use Rattle.cert_check.specs.declared.cert_end.CertEnd.{CertEnd}
use Rattle.cert_check.specs.declared.cert_end.CertEnd.TheVariants as ends

-- what is seen of a check
pub record SeenCheck : Type 0 where
  pub reader : HeldReader
  pub checker : HeldChecker

-- how many lines a checker counts: none once it keeps a failure
abbrev pub checked_lines : Option (Result Progress Failure) → ℕ
checked_lines (Some (Ok r)) = r.lines
checked_lines other = 0

-- a checker before the first line
abbrev pub fresh_checker : Table → ℕ → HeldChecker
fresh_checker table m = record { table = table; cores = m; kept = Some (Ok (before_first_line table)) }

-- a check before the first byte
abbrev pub fresh_check : Table → ℕ → SeenCheck
fresh_check table m = record {
  reader = record { grammar = second_version; held = Open 0 [] false; waiting = None };
  checker = fresh_checker table m;
}

-- a checker came from the first to this by taking the lines
pub record TakesLines (first : HeldChecker) (lines : List CertLine) (now : HeldChecker) : Type 0 where
  pub table : now.table ≡ first.table
  pub cores : now.cores ≡ first.cores
  pub kept_are : (front : List CertLine) → first.kept ≡ Some (kept first.table first.cores front) → now.kept ≡ Some (kept first.table first.cores (front ++ lines))

-- A check came from the first to this by taking the bytes: some lines were taken out of them, and the checker took these.
abbrev pub TakesBytes : SeenCheck → List ℕ → SeenCheck → Type 0
TakesBytes first bytes now = AfterBytes second_version bytes now.reader (λ lines. TakesLines first.checker lines now.checker)

-- the intervals and marks of a yes, or the failure
abbrev pub end_told : CertEnd → Result (List JobEntry) Failure
end_told (ends.Yes answer) = Ok (entries_of answer.spans.items answer.marks.items)
end_told (ends.No clause line) = Err (record { clause = clause; line = line })

-- The lines are those of a valid certificate, these are the intervals and marks of its jobs, and in each legal run of every
-- scenario each job finishes within its interval, and by its deadline where its mark is ok.
pub record AcceptsAs (table : Table) (m : ℕ) (lines : List CertLine) (jobs : List JobEntry) : Type 0 where
  pub valid : Valid table m lines
  pub jobs_are : jobs ≡ job_entries lines
  pub hold : HoldInEachRun table m jobs

-- what lines come to: those of a valid certificate with these intervals and marks, or the first failure
abbrev pub CheckedAs : Table → ℕ → List CertLine → Result (List JobEntry) Failure → Type 0
CheckedAs table m lines (Ok jobs) = AcceptsAs table m lines jobs
CheckedAs table m lines (Err failure) = first_failure table m lines ≡ Some failure

-- what the end of the lines gives
abbrev pub EndsLines : Table → ℕ → List CertLine → Result CertEnd FeedFault → Type 0
EndsLines table m lines (Ok end) = CheckedAs table m lines (end_told end)
EndsLines table m lines (Err (fault.Text line byte)) = ⊥
EndsLines table m lines (Err fault.Memory) = Unit {0}

-- the bytes are a readable certificate, and its lines come to this
pub record ReadsAs (table : Table) (m : ℕ) (bytes : List ℕ) (end : Result (List JobEntry) Failure) : Type 0 where
  pub lines : List CertLine
  pub readable : Readable second_version bytes lines
  pub checked : CheckedAs table m lines end

-- What the end of the bytes gives. Want of memory says nothing of them.
abbrev pub EndsBytes : Table → ℕ → List ℕ → Result CertEnd FeedFault → Type 0
EndsBytes table m bytes (Ok end) = ReadsAs table m bytes (end_told end)
EndsBytes table m bytes (Err (fault.Text line byte)) = IsTextFault second_version bytes line byte
EndsBytes table m bytes (Err fault.Memory) = Unit {0}
