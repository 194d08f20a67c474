-- The command `report`.
--     report_plan                      its files in their order, and the work that they come to
--     report_files                     their kinds and names
--     entry_spans jobs                 the intervals of jobs
--     report_bytes tasks table jobs    the report of the jobs, or of their tasks
--     report_reply                     what is printed of a certificate
--     RespondsWithin table m j most    in each legal run job j finishes at most so long after its earliest release
--     PrintsReport, PrintsReports      the report of a valid certificate, and what it means
use Rattle.std.specs.Prelude.{ℕ, ◌≡◌, ◌≤◌, ◌<◌, ◌+◌, Bool, true, false, List, length, map, Option, Result}
use Rattle.sag_edge.specs.Reading.{SeenFiles}
use Rattle.sag_edge.specs.Writing.{SeenSink}
use Rattle.sag_texts.specs.declared.fault.FileKind.{FileKind}
use Rattle.sag_texts.specs.declared.fault.Fault.{Fault}
use Rattle.sag_words.specs.declared.command.Command.TheVariants as commands
use Rattle.sag_words.specs.Words.{WordsOf}
use Rattle.sag_time.specs.Interval.{Interval}
use Rattle.job_model.specs.Scenario.{Fits}
use Rattle.job_model.specs.Table.{Table, job_at}
use Rattle.run_meaning.specs.declared.places.Place.{Place}
use Rattle.run_meaning.specs.Legal.{Legal}
use Rattle.run_meaning.specs.Ready.{finish_of}
use Rattle.graph_check.specs.Entries.{JobEntry}
use Rattle.graph_check.specs.Kept.{Failure}
use Rattle.graph_check.specs.Told.{job_entries}
use Rattle.response_report.specs.ReportRows.{report_rows, task_rows, wcrt_in}
use Rattle.response_report.specs.ReportText.{report_text, tasks_text}
use Rattle.sag_engine.specs.declared.status.Status.{Status}
use Rattle.sag_engine.specs.declared.status.Status.TheVariants as statuses
use Rattle.sag_engine.specs.Plan.{Plan}
use Rattle.sag_engine.specs.Certificates.{PrintsCertified, certificate_reply, certified_files, certified_plan}
use Rattle.sag_engine.specs.Work.{Work, Reply}
use Rattle.sag_engine.specs.Work.Work.{Reports}

-- the job file, the precedence file where one is named, and then the certificate, for so many cores
abbrev pub report_plan : List ℕ → List ℕ → Option (List ℕ) → ℕ → Bool → Plan (Result Work Fault)
report_plan jobs cert prec cores tasks = certified_plan (Reports tasks) jobs cert prec cores

-- the kinds and names of its files
abbrev pub report_files : List ℕ → List ℕ → Option (List ℕ) → List (FileKind × List ℕ)
report_files jobs cert prec = certified_files jobs cert prec

-- the intervals of jobs
abbrev pub entry_spans : List JobEntry → List Interval
entry_spans jobs = map (λ e. e.span) jobs

-- the report of the jobs, or of their tasks
abbrev pub report_bytes : Bool → Table → List JobEntry → List ℕ
report_bytes false table jobs = report_text (report_rows table (entry_spans jobs))
report_bytes true table jobs = tasks_text (task_rows (report_rows table (entry_spans jobs)))

-- what is printed of a certificate: its report, or the first clause that is broken
abbrev pub report_reply : Bool → Table → Result (List JobEntry) Failure → Reply
report_reply tasks table end = certificate_reply (report_bytes tasks table) end

-- in each legal run of every scenario the job finishes at most so long after its earliest release
abbrev pub RespondsWithin : Table → ℕ → ℕ → ℕ → Type 0
RespondsWithin table m j most = (scenario : List (ℕ × ℕ)) (schedule : List Place) → Fits table scenario → Legal table m scenario schedule
    → finish_of scenario schedule j ≤ (job_at table j).rmin + most

-- The certificate is valid, and the report of its jobs, or of their tasks, was printed. In each legal run of every scenario each
-- job finishes at most the worst-case response time of its task after its earliest release.
pub record PrintsReport (jobs cert : List ℕ) (prec : Option (List ℕ)) (cores : ℕ) (tasks : Bool) (files : SeenFiles) (out out' : SeenSink) : Type 0 where
  pub certified : PrintsCertified (report_bytes tasks) jobs cert prec cores files out out'
  pub respond : (j : ℕ) → j < length certified.table.jobs
      → RespondsWithin certified.table cores j (wcrt_in (task_rows (report_rows certified.table (entry_spans (job_entries certified.lines)))) (job_at certified.table j).task)

-- where the words ask for a report and it ended with Ok, the report of a valid certificate was printed
abbrev pub PrintsReports : List (List ℕ) → SeenFiles → SeenSink → SeenSink → Status → Type 0
PrintsReports words files out out' status = status ≡ statuses.Ok → (jobs cert : List ℕ) (prec : Option (List ℕ)) (cores : ℕ) (tasks : Bool)
    → WordsOf words (commands.Report jobs cert prec cores tasks) → PrintsReport jobs cert prec cores tasks files out out'
