-- The command `check`.
--     check_plan                its files in their order, and the work that they come to
--     check_files               their kinds and names
--     check_reply               what is printed of a certificate
--     PrintsYes, PrintsYeses    the certificate that a check said yes to, and what that means
use Rattle.std.specs.Prelude.{ℕ, ◌≡◌, List, Option, Result}
use Rattle.sag_edge.specs.Reading.{SeenFiles}
use Rattle.sag_edge.specs.Writing.{SeenSink}
use Rattle.sag_texts.specs.declared.fault.FileKind.{FileKind}
use Rattle.sag_texts.specs.declared.fault.Fault.{Fault}
use Rattle.sag_words.specs.declared.command.Command.TheVariants as commands
use Rattle.sag_words.specs.Words.{WordsOf}
use Rattle.job_model.specs.Table.{Table}
use Rattle.graph_check.specs.Entries.{JobEntry}
use Rattle.graph_check.specs.Kept.{Failure}
use Rattle.cert_check.specs.AnswerTexts.{yes_text}
use Rattle.sag_engine.specs.declared.status.Status.{Status}
use Rattle.sag_engine.specs.declared.status.Status.TheVariants as statuses
use Rattle.sag_engine.specs.Plan.{Plan}
use Rattle.sag_engine.specs.Certificates.{PrintsCertified, certificate_reply, certified_files, certified_plan}
use Rattle.sag_engine.specs.Work.{Work, Reply}
use Rattle.sag_engine.specs.Work.Work.{Checks}

-- the job file, the precedence file where one is named, and then the certificate, for so many cores
abbrev pub check_plan : List ℕ → List ℕ → Option (List ℕ) → ℕ → Plan (Result Work Fault)
check_plan jobs cert prec cores = certified_plan Checks jobs cert prec cores

-- the kinds and names of its files
abbrev pub check_files : List ℕ → List ℕ → Option (List ℕ) → List (FileKind × List ℕ)
check_files jobs cert prec = certified_files jobs cert prec

-- what is printed of a certificate: its jobs, or the first clause that is broken
abbrev pub check_reply : Table → Result (List JobEntry) Failure → Reply
check_reply table end = certificate_reply (yes_text table) end

-- The check said yes: the certificate is valid, and the intervals and marks of its jobs were printed.
abbrev pub PrintsYes : List ℕ → List ℕ → Option (List ℕ) → ℕ → SeenFiles → SeenSink → SeenSink → Type 0
PrintsYes jobs cert prec cores files out out' = PrintsCertified yes_text jobs cert prec cores files out out'

-- where the words ask for a check and it ended with Ok, it said yes
abbrev pub PrintsYeses : List (List ℕ) → SeenFiles → SeenSink → SeenSink → Status → Type 0
PrintsYeses words files out out' status = status ≡ statuses.Ok → (jobs cert : List ℕ) (prec : Option (List ℕ)) (cores : ℕ)
    → WordsOf words (commands.Check jobs cert prec cores) → PrintsYes jobs cert prec cores files out out'
