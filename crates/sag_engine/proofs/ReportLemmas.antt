-- The command `report`: the intervals of its jobs, and what its report means.
use Rattle.std.proofs.Common.{◌≡◌, ◌∙◌, ◌<◌, ◌∷◌, [], ℕ, zero, suc, List, Bool, Option, Some, Result, Ok, Err, ap, arith, length, min, refl, take}
use Rattle.std.specs.Prelude.{slice_get}
use Rattle.sag_edge.specs.Reading.{SeenFiles}
use Rattle.sag_edge.specs.Writing.{SeenSink}
use Rattle.sag_words.specs.declared.command.Command.TheVariants as commands
use Rattle.sag_words.specs.Laws.{OneCommand}
use Rattle.lists.proofs.Elements.{element}
use Rattle.sag_time.specs.Interval.{Interval}
use Rattle.job_model.specs.Table.{Table, job_at}
use Rattle.run_meaning.specs.Ready.{finish_of}
use Rattle.cert_text.specs.declared.line.Mark.{Mark}
use Rattle.graph_check.specs.Bounds.{HoldInEachRun}
use Rattle.graph_check.specs.Entries.{JobEntry}
use Rattle.graph_check.specs.Told.{entries_of, job_entries}
use Rattle.response_report.specs.Laws.{ResponsesWithinWcrt}
use Rattle.response_report.specs.ReportRows.{report_rows, task_rows, wcrt_in}
use Rattle.sag_engine.specs.declared.conclusion.Conclusion.{Conclusion}
use Rattle.sag_engine.specs.declared.halt.Halt.{Halt}
use Rattle.sag_engine.specs.declared.halt.Halt.TheVariants.{Usage, Refused, Read, Write, Memory}
use Rattle.sag_engine.specs.declared.status.Status.TheVariants as statuses
use Rattle.sag_engine.specs.Work.Work.{Reports}
use Rattle.sag_engine.specs.Report.{PrintsReport, PrintsReports, RespondsWithin, entry_spans, report_bytes, report_plan}
use Rattle.sag_engine.specs.RunEnds.{EndsWords, Runs, Works, conclusion_status, run_status}
use Rattle.sag_engine.proofs.CertifiedLemmas.{prints_certified}

abbrev no_spans : List Interval
no_spans = []

-- the intervals are those before the end of the shorter of the two lists
pub spans_of_entries : (spans : List Interval) (marks : List Mark) → take (min (length spans) (length marks)) spans ≡ entry_spans (entries_of spans marks)
spans_of_entries [] marks =
    let none : min (length {A = Interval} []) (length marks) ≡ 0 = omega arith in
    ap (λ n. take n no_spans) none
spans_of_entries (s ∷ spans) [] =
    let none : min (length (s ∷ spans)) (length {A = Mark} []) ≡ 0 = omega arith in
    ap (λ n. take n (s ∷ spans)) none
spans_of_entries (s ∷ spans) (m ∷ marks) =
    let shorter : min (length (s ∷ spans)) (length (m ∷ marks)) ≡ suc (min (length spans) (length marks)) = omega arith in
    ap (λ n. take n (s ∷ spans)) shorter ∙ ap (λ (rest : List Interval). s ∷ rest) (spans_of_entries spans marks)

pub length-spans : (jobs : List JobEntry) → length (entry_spans jobs) ≡ length jobs
length-spans [] = refl
length-spans (e ∷ jobs) = ap suc (length-spans jobs)

span_at : (jobs : List JobEntry) (j : ℕ) (e : JobEntry) → slice_get jobs j ≡ Some e → slice_get (entry_spans jobs) j ≡ Some e.span
span_at [] j e is = cc
span_at (x ∷ jobs) zero e is = let same : x ≡ e = cc in ap (λ (y : JobEntry). Some y.span) same
span_at (x ∷ jobs) (suc j) e is = span_at jobs j e is

-- jobs that finish within their intervals respond within the WCRT of their tasks
responds : ResponsesWithinWcrt → (table : Table) (m : ℕ) (jobs : List JobEntry) → HoldInEachRun table m jobs → (j : ℕ) → j < length table.jobs
    → RespondsWithin table m j (wcrt_in (task_rows (report_rows table (entry_spans jobs))) (job_at table j).task)
responds law table m jobs hold j is_job = λ scenario schedule fits legal.
    let (e, there) = element jobs j (omega (arith, is_job, hold.all_jobs)) in
    let within = hold.within j e there scenario schedule fits legal in
    omega (arith, law table (entry_spans jobs) j e.span (finish_of scenario schedule j) is_job (span_at jobs j e there) within.1)

module _ (one_command : OneCommand) (law : ResponsesWithinWcrt) where
  prints_report : (jobs cert : List ℕ) (prec : Option (List ℕ)) (cores : ℕ) (tasks : Bool) (f f' : SeenFiles) (o o' : SeenSink) (conclusion : Conclusion)
      → Runs (report_plan jobs cert prec cores tasks) f f' o o' (Ok conclusion) → conclusion_status conclusion ≡ statuses.Ok → PrintsReport jobs cert prec cores tasks f o o'
  prints_report jobs cert prec cores tasks f f' o o' conclusion runs ok =
      let certified = prints_certified (Reports tasks) (report_bytes tasks) (λ table end reply is. is) jobs cert prec cores f f' o o' conclusion runs ok in
      record { certified = certified; respond = responds law certified.table cores (job_entries certified.lines) certified.hold }

  prints_reports : (words : List (List ℕ)) (f f' : SeenFiles) (o o' : SeenSink) (r : Result Conclusion Halt) → EndsWords words f f' o o' r → PrintsReports words f o o' (run_status r)
  prints_reports words f f' o o' (Ok conclusion) w is = λ jobs cert prec cores tasks asked.
      let same = one_command words w.command (commands.Report jobs cert prec cores tasks) w.asked asked in
      let runs = rw same at w.runs in
      prints_report jobs cert prec cores tasks f f' o o' conclusion runs is
  prints_reports words f f' o o' (Err Usage) w is = absurd cc
  prints_reports words f f' o o' (Err (Refused fault)) w is = absurd cc
  prints_reports words f f' o o' (Err (Read kind)) w is = absurd cc
  prints_reports words f f' o o' (Err Write) w is = absurd cc
  prints_reports words f f' o o' (Err Memory) w is = absurd cc

  -- where the words ask for a report, and it ended with Ok, the report of a valid certificate was printed
  pub reports_by : (words : List (List ℕ)) {f f' : SeenFiles} {o o' : SeenSink} {r : Result Conclusion Halt} → Works words f f' o o' r → PrintsReports words f o o' (run_status r)
  reports_by words {f = f} {f' = f'} {o = o} {o' = o'} {r = r} w = prints_reports words f f' o o' r w.end
