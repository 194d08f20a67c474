-- The command `audit`: what its files come to, which it reads, that it has one reply, and what its yes means.
use Rattle.std.proofs.Common.{◌≡◌, ◌∙◌, ◌∷◌, ◌<◌, ◌≤◌, ℕ, inl, inr, List, [], Option, None, Some, Result, Ok, Err, ap, length, refl, subst, sym}
use Rattle.std.specs.Prelude.{IfSome}
use Rattle.sag_edge.specs.Contents.{Contents}
use Rattle.sag_edge.specs.Reading.{SeenFiles}
use Rattle.sag_edge.specs.Writing.{GrowsBy, SeenSink}
use Rattle.sag_texts.specs.declared.fault.FileKind.{FileKind}
use Rattle.sag_texts.specs.declared.fault.FileKind.TheVariants as kinds
use Rattle.sag_texts.specs.declared.fault.Fault.{Fault}
use Rattle.sag_words.specs.declared.command.Command.TheVariants as commands
use Rattle.sag_words.specs.Laws.{OneCommand}
use Rattle.job_model.specs.Scenario.{Fits}
use Rattle.job_model.specs.Table.{Table, IsTable}
use Rattle.run_audit.specs.declared.broken.Break.{Break}
use Rattle.run_audit.specs.FirstBreak.{Audits}
use Rattle.run_audit.specs.Laws.{OneFirstBreak}
use Rattle.run_meaning.specs.declared.places.Place.{Place}
use Rattle.run_meaning.specs.Laws.{StartsAgree}
use Rattle.run_meaning.specs.Legal.{Legal}
use Rattle.run_meaning.specs.Ready.{start_of}
use Rattle.job_model.specs.declared.limits.TheConstants.{MOST_START}
use Rattle.side_csv.specs.Laws.{OneRecordedRun, OneRunFault, RunsKeepRules}
use Rattle.sag_engine.specs.declared.conclusion.Conclusion.{Conclusion}
use Rattle.sag_engine.specs.declared.fetch.TheConstants.{MOST_FILE_BYTES}
use Rattle.sag_engine.specs.declared.halt.Halt.{Halt}
use Rattle.sag_engine.specs.declared.halt.Halt.TheVariants.{Usage, Refused, Read, Write, Memory}
use Rattle.sag_engine.specs.declared.status.Status.TheVariants as statuses
use Rattle.sag_engine.specs.Audit.{IsAuditReply, IsRecordedRun, PrintsLegal, PrintsLegals, RunJudged, RunRefused, audit_files, audit_plan, audit_reply, run_plan}
use Rattle.sag_engine.specs.Plan.{ComesTo, ReadsNext, file_plan, judged}
use Rattle.sag_engine.specs.Plan.Plan.{Ends}
use Rattle.sag_engine.specs.Inputs.{scenario_plan, table_plan, told_fault}
use Rattle.sag_engine.specs.Replay.{replay_plan}
use Rattle.sag_engine.specs.Work.{IsAmongFiles, Reply, Work, precedence_file}
use Rattle.sag_engine.specs.Work.Work.{AuditsRun, Replays}
use Rattle.sag_engine.specs.Commands.{Replies}
use Rattle.sag_engine.specs.RunEnds.{EndsWords, Gives, Runs, Works, conclusion_status, run_status}
use Rattle.sag_engine.proofs.FileLemmas.{among_first, among_more, one_file, reads_split, scenario_reads, table_reads}
use Rattle.sag_engine.proofs.InputLemmas.{accepted_fits, accepted_table}
use Rattle.sag_engine.proofs.OneInputs.{scenario_one, table_one}
use Rattle.sag_engine.proofs.OneJudgement.{FileLaws}
use Rattle.sag_engine.proofs.OnePlan.{IsOne, ends_one, file_one, judged_one, then_one}
use Rattle.sag_engine.proofs.PlanLemmas.{comes_split, comes_then, judged_so}

-- what other crates prove of recorded runs
pub record AuditLaws : Type 0 where
  pub one_recorded_run : OneRecordedRun
  pub one_run_fault : OneRunFault
  pub runs_keep_rules : RunsKeepRules
  pub one_first_break : OneFirstBreak

-- ---- what is known of a run that was accepted

-- the run of a file
accepted_recorded : (table : Table) (rows : List (ℕ × ℕ)) (name : List ℕ) (m : Option Contents) (schedule : List Place)
    → ComesTo (run_plan table rows name) m (Ok schedule) → (bytes : List ℕ) × IsRecordedRun table rows bytes schedule
unfolding run_plan
accepted_recorded table rows name m schedule h =
    let s = comes_split (file_plan _ name _) _ m schedule h in
    (s.0, judged_so (RunJudged table rows s.0) m (Ok schedule) s.2)

-- it has a place for each job
pub accepted_one_each : (table : Table) (rows : List (ℕ × ℕ)) (name : List ℕ) (m : Option Contents) (schedule : List Place)
    → ComesTo (run_plan table rows name) m (Ok schedule) → length schedule ≡ length table.jobs
accepted_one_each table rows name m schedule h = (accepted_recorded table rows name m schedule h).1.one_each

-- its starts are those that a file may have
pub accepted_starts : (table : Table) (rows : List (ℕ × ℕ)) (name : List ℕ) (m : Option Contents) (schedule : List Place)
    → ComesTo (run_plan table rows name) m (Ok schedule) → (j : ℕ) → j < length table.jobs → start_of schedule j ≤ MOST_START
accepted_starts table rows name m schedule h = (accepted_recorded table rows name m schedule h).1.starts

-- a job that breaks a rule is one of the table
pub answer_is_job : (table : Table) (m : ℕ) (rows : List (ℕ × ℕ)) (schedule : List Place) (answer : Option Break)
    → Audits table m rows schedule answer → IfSome answer (λ b. b.job < length table.jobs)
answer_is_job table m rows schedule None audits = tt
answer_is_job table m rows schedule (Some broken) audits = audits.is_job

-- what an audit comes to: a run of a scenario that fits its table, on the cores of the command
record AcceptedAudit (jobs scenario run : List ℕ) (prec : Option (List ℕ)) (cores : ℕ) (m : Option Contents) (work : Work) : Type 0 where
  table : Table
  rows : List (ℕ × ℕ)
  schedule : List Place
  is_table : IsTable table
  fits : Fits table rows
  replays : ComesTo (replay_plan jobs scenario prec cores) m (Ok (Replays table cores rows))
  work_is : work ≡ AuditsRun table cores rows schedule

accepted_audit : (jobs scenario run : List ℕ) (prec : Option (List ℕ)) (cores : ℕ) (m : Option Contents) (work : Work)
    → ComesTo (audit_plan jobs scenario run prec cores) m (Ok work) → AcceptedAudit jobs scenario run prec cores m work
accepted_audit jobs scenario run prec cores m work h =
    let s = comes_split (table_plan jobs prec) _ m work h in
    let r = comes_split (scenario_plan s.0 scenario) _ m work s.2 in
    let t = comes_split (run_plan s.0 r.0 run) _ m work r.2 in
    record {
      table = s.0;
      rows = r.0;
      schedule = t.0;
      is_table = accepted_table jobs prec m s.0 s.1;
      fits = accepted_fits s.0 scenario m r.0 r.1;
      replays = comes_then (table_plan jobs prec) _ m s.0 _ s.1 (comes_then (scenario_plan s.0 scenario) (λ rows. Ends (Ok (Replays s.0 cores rows))) m r.0 _ r.1 refl);
      work_is = let same : AuditsRun s.0 cores r.0 t.0 ≡ work = cc in sym same;
    }

-- ---- its plan

run_reads : (table : Table) (rows : List (ℕ × ℕ)) (name : List ℕ) (m : Option Contents) (k : FileKind) (n : List ℕ)
    → ReadsNext (run_plan table rows name) m k n → (kinds.Run ≡ k) × (name ≡ n)
unfolding run_plan
run_reads table rows name m k n h = one_file _ name _ _ m k n h

-- the files that it reads are those that its words name
pub audit_reads : (jobs scenario run : List ℕ) (prec : Option (List ℕ)) (cores : ℕ) (m : Option Contents) (k : FileKind) (n : List ℕ)
    → ReadsNext (audit_plan jobs scenario run prec cores) m k n → IsAmongFiles (audit_files jobs scenario run prec) k n
audit_reads jobs scenario run prec cores m k n h =
    let table_files : List (FileKind × List ℕ) = (kinds.Jobs, jobs) ∷ precedence_file prec in
    let run_files : List (FileKind × List ℕ) = (kinds.Scenario, scenario) ∷ (kinds.Run, run) ∷ [] in
    elim (reads_split (table_plan jobs prec) _ m k n h) [
      | inl x ↦ among_first table_files run_files k n (table_reads jobs prec m k n x)
      | inr x ↦ elim (reads_split (scenario_plan x.0 scenario) _ m k n x.1) [
        | inl y ↦ among_more table_files run_files k n (inl (scenario_reads x.0 scenario m k n y))
        | inr y ↦ elim (reads_split (run_plan x.0 y.0 run) (λ schedule. Ends (Ok (AuditsRun x.0 cores y.0 schedule))) m k n y.1) [
          | inl z ↦ among_more table_files run_files k n (inr (inl (run_reads x.0 y.0 run m k n z)))
          | inr z ↦ absurd z.1
        ]
      ]
    ]

module _ (files : FileLaws) (laws : AuditLaws) where
  run_refused : (table : Table) (rows : List (ℕ × ℕ)) (bytes : List ℕ) → IsTable table → (one two : Fault)
      → RunRefused table rows bytes one → RunRefused table rows bytes two → one ≡ two
  run_refused table rows bytes is_table one two (e, told, other, first) (e', told', other', first') =
      told ∙ ap (told_fault kinds.Run table) (laws.one_run_fault table rows bytes e e' is_table other other' first first') ∙ sym told'

  -- of a run's bytes there is one judgement
  run_same : (table : Table) (rows : List (ℕ × ℕ)) (bytes : List ℕ) → IsTable table → (v w : Result (List Place) Fault)
      → RunJudged table rows bytes v → RunJudged table rows bytes w → v ≡ w
  run_same table rows bytes is_table (Ok s) (Ok t) a b = ap Ok (laws.one_recorded_run table rows bytes s t a.text b.text)
  run_same table rows bytes is_table (Ok s) (Err f) a (e, told, other, first) = absurd (laws.runs_keep_rules table rows bytes s is_table a.text e other first)
  run_same table rows bytes is_table (Err f) (Ok s) (e, told, other, first) a = absurd (laws.runs_keep_rules table rows bytes s is_table a.text e other first)
  run_same table rows bytes is_table (Err f) (Err g) a b = ap Err (run_refused table rows bytes is_table f g a b)

  run_one : (contents : Contents) (table : Table) (rows : List (ℕ × ℕ)) → IsTable table → (name : List ℕ) → IsOne contents (run_plan table rows name)
  unfolding run_plan
  run_one contents table rows is_table name = then_one contents (file_plan kinds.Run name MOST_FILE_BYTES) (λ bytes. judged (RunJudged table rows bytes))
      (file_one contents kinds.Run name MOST_FILE_BYTES) (λ bytes comes. judged_one contents (RunJudged table rows bytes) (run_same table rows bytes is_table))

  -- its files fix its work, or its refusal
  pub audit_one : (contents : Contents) (jobs scenario run : List ℕ) (prec : Option (List ℕ)) (cores : ℕ) → IsOne contents (audit_plan jobs scenario run prec cores)
  audit_one contents jobs scenario run prec cores = then_one contents (table_plan jobs prec) _ (table_one files contents jobs prec)
      (λ table comes.
      let is_table = accepted_table jobs prec (Some contents) table comes in
      then_one contents (scenario_plan table scenario) _ (scenario_one files contents table is_table scenario)
      (λ rows comes'. then_one contents (run_plan table rows run) _ (run_one contents table rows is_table run)
      (λ schedule comes''. ends_one contents (Ok (AuditsRun table cores rows schedule)))))

  -- its work has one reply
  pub one_audit_reply : (contents : Contents) (jobs scenario run : List ℕ) (prec : Option (List ℕ)) (cores : ℕ) (r s : Reply)
      → Gives (audit_plan jobs scenario run prec cores) (Some contents) r → Gives (audit_plan jobs scenario run prec cores) (Some contents) s → r ≡ s
  one_audit_reply contents jobs scenario run prec cores r s a b =
      let works : ◌≡◌ {A = Result Work Fault} (Ok b.work) (Ok a.work) = (audit_one contents jobs scenario run prec cores).one (Ok b.work) (Ok a.work) b.comes a.comes in
      let work : b.work ≡ a.work = cc works in
      let w = accepted_audit jobs scenario run prec cores (Some contents) a.work a.comes in
      let (answer, audits, is) : IsAuditReply w.table cores w.rows w.schedule r = subst (λ x. Replies x r) w.work_is a.replies in
      let (answer', audits', is') : IsAuditReply w.table cores w.rows w.schedule s = subst (λ x. Replies x s) (work ∙ w.work_is) b.replies in
      let same : answer ≡ answer' = laws.one_first_break w.table cores w.rows w.schedule answer answer' w.is_table w.fits audits audits' in
      is ∙ ap (audit_reply w.table) same ∙ sym is'

-- ---- what its yes means

-- where it ended with Ok, the run is legal
legal_of : (table : Table) (m : ℕ) (rows : List (ℕ × ℕ)) (schedule : List Place) (answer : Option Break) → Audits table m rows schedule answer
    → conclusion_status (audit_reply table answer).conclusion ≡ statuses.Ok → (answer ≡ None) × Legal table m rows schedule
legal_of table m rows schedule None audits is = (refl, audits)
legal_of table m rows schedule (Some broken) audits is = absurd (cc is)

module _ (one_command : OneCommand) (starts_agree : StartsAgree) where
  prints_legal : (jobs scenario run : List ℕ) (prec : Option (List ℕ)) (cores : ℕ) (f f' : SeenFiles) (o o' : SeenSink) (conclusion : Conclusion)
      → conclusion_status conclusion ≡ statuses.Ok → Runs (audit_plan jobs scenario run prec cores) f f' o o' (Ok conclusion) → PrintsLegal jobs scenario run prec cores f o o'
  prints_legal jobs scenario run prec cores f f' o o' conclusion is w =
      let given = w.end.1 in
      let a = accepted_audit jobs scenario run prec cores f.contents given.work given.comes in
      let (answer, audits, reply) : IsAuditReply a.table cores a.rows a.schedule w.end.0 = subst (λ x. Replies x w.end.0) a.work_is given.replies in
      let status = ap conclusion_status (sym (w.end.2 ∙ ap (λ (r : Reply). r.conclusion) reply)) ∙ is in
      let legal = legal_of a.table cores a.rows a.schedule answer audits status in
      record {
        table = a.table;
        rows = a.rows;
        schedule = a.schedule;
        comes = subst (λ x. ComesTo (audit_plan jobs scenario run prec cores) f.contents (Ok x)) a.work_is given.comes;
        is_table = a.is_table;
        fits = a.fits;
        legal = legal.1;
        replays = a.replays;
        same_starts = λ other other_legal j within. starts_agree a.table cores a.rows other a.schedule a.is_table a.fits other_legal legal.1 j within;
        printed = subst (λ (r : Reply). GrowsBy o.taken o'.taken r.bytes) (reply ∙ ap (audit_reply a.table) legal.0) w.end.3;
      }

  prints_legals : (words : List (List ℕ)) (f f' : SeenFiles) (o o' : SeenSink) (r : Result Conclusion Halt) → EndsWords words f f' o o' r → PrintsLegals words f o o' (run_status r)
  prints_legals words f f' o o' (Ok conclusion) w is = λ jobs scenario run prec cores asked.
      let same = one_command words w.command (commands.Audit jobs scenario run prec cores) w.asked asked in
      let runs = rw same at w.runs in
      prints_legal jobs scenario run prec cores f f' o o' conclusion is runs
  prints_legals words f f' o o' (Err Usage) w is = absurd cc
  prints_legals words f f' o o' (Err (Refused fault)) w is = absurd cc
  prints_legals words f f' o o' (Err (Read kind)) w is = absurd cc
  prints_legals words f f' o o' (Err Write) w is = absurd cc
  prints_legals words f f' o o' (Err Memory) w is = absurd cc

  -- where the words ask for an audit, and it ended with Ok, the run is legal
  pub legals_by : (words : List (List ℕ)) {f f' : SeenFiles} {o o' : SeenSink} {r : Result Conclusion Halt} → Works words f f' o o' r → PrintsLegals words f o o' (run_status r)
  legals_by words {f = f} {f' = f'} {o = o} {o' = o'} {r = r} w = prints_legals words f f' o o' r w.end
