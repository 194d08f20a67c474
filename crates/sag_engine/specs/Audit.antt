-- The command `audit`.
--     RunRefused table scenario bytes fault     the first rule that the file of a recorded run breaks
--     RunJudged table scenario bytes end        the run of such a file, or that rule
--     run_plan table scenario name              such a file is read, and judged
--     audit_plan, audit_files                   its files in their order, and the work that they come to
--     audit_reply, IsAuditReply                 what is printed of a run
--     PrintsLegal, PrintsLegals                 the run that was found legal, and what that means
use Rattle.std.specs.Prelude.{ℕ, ◌≡◌, ◌≢◌, ◌≤◌, ◌<◌, ◌++◌, List, [], ◌∷◌, length, Option, None, Some, Result, Ok, Err}
use Rattle.sag_edge.specs.Reading.{SeenFiles}
use Rattle.sag_edge.specs.Writing.{SeenSink, GrowsBy}
use Rattle.sag_texts.specs.declared.fault.FileKind.{FileKind}
use Rattle.sag_texts.specs.declared.fault.FileKind.TheVariants as kinds
use Rattle.sag_texts.specs.declared.fault.Fault.{Fault}
use Rattle.sag_words.specs.declared.command.Command.TheVariants as commands
use Rattle.sag_words.specs.Words.{WordsOf}
use Rattle.job_model.specs.Scenario.{Fits}
use Rattle.job_model.specs.Table.{IsTable, Table}
use Rattle.run_meaning.specs.declared.places.Place.{Place}
use Rattle.run_meaning.specs.Legal.{Legal}
use Rattle.run_meaning.specs.Ready.{start_of}
use Rattle.run_audit.specs.declared.broken.Break.{Break}
use Rattle.run_audit.specs.AnswerTexts.{broken_text, legal_text}
use Rattle.run_audit.specs.FirstBreak.{Audits}
use Rattle.side_csv.specs.declared.fault.SideFault.{SideFault}
use Rattle.side_csv.specs.declared.fault.SideFault.TheVariants as side
use Rattle.job_model.specs.declared.limits.TheConstants.{MOST_START}
use Rattle.side_csv.specs.RunFaults.{FirstRunFault}
use Rattle.side_csv.specs.RunText.{RunText}
use Rattle.sag_engine.specs.declared.conclusion.Conclusion.TheVariants.{Done, No}
use Rattle.sag_engine.specs.declared.fetch.TheConstants.{MOST_FILE_BYTES}
use Rattle.sag_engine.specs.declared.status.Status.{Status}
use Rattle.sag_engine.specs.declared.status.Status.TheVariants as statuses
use Rattle.sag_engine.specs.Plan.{ComesTo, Plan, ◌>>=◌, file_plan, judged}
use Rattle.sag_engine.specs.Plan.Plan.{Ends}
use Rattle.sag_engine.specs.Inputs.{scenario_plan, table_plan, told_fault}
use Rattle.sag_engine.specs.Replay.{replay_plan}
use Rattle.sag_engine.specs.Work.{Work, Reply, precedence_file}
use Rattle.sag_engine.specs.Work.Work.{AuditsRun, Replays}

-- The first rule that the file of a recorded run breaks. Want of memory is no refusal.
abbrev pub RunRefused : Table → List (ℕ × ℕ) → List ℕ → Fault → Type 0
RunRefused table scenario bytes fault =
    (e : SideFault) × (fault ≡ told_fault kinds.Run table e) × (e ≢ side.Memory) × FirstRunFault table scenario bytes e

-- the run that a file gives: a place for each job, with starts that a file may have
pub record IsRecordedRun (table : Table) (scenario : List (ℕ × ℕ)) (bytes : List ℕ) (schedule : List Place) : Type 0 where
  pub text : RunText table scenario bytes schedule
  pub one_each : length schedule ≡ length table.jobs
  pub starts : (j : ℕ) → j < length table.jobs → start_of schedule j ≤ MOST_START

-- the run of such a file, or the first rule that the file breaks
abbrev pub RunJudged : Table → List (ℕ × ℕ) → List ℕ → Result (List Place) Fault → Type 0
RunJudged table scenario bytes (Ok schedule) = IsRecordedRun table scenario bytes schedule
RunJudged table scenario bytes (Err fault) = RunRefused table scenario bytes fault

-- the file of a run of this scenario
unfoldable pub run_plan : Table → List (ℕ × ℕ) → List ℕ → Plan (Result (List Place) Fault)
run_plan table scenario name = do
  bytes ← file_plan kinds.Run name MOST_FILE_BYTES
  judged (RunJudged table scenario bytes)

-- the job file, the precedence file where one is named, the scenario file, and then the file of the run, for so many cores
abbrev pub audit_plan : List ℕ → List ℕ → List ℕ → Option (List ℕ) → ℕ → Plan (Result Work Fault)
audit_plan jobs scenario run prec cores = do
  table ← table_plan jobs prec
  rows ← scenario_plan table scenario
  schedule ← run_plan table rows run
  Ends (Ok (AuditsRun table cores rows schedule))

-- the kinds and names of its files
abbrev pub audit_files : List ℕ → List ℕ → List ℕ → Option (List ℕ) → List (FileKind × List ℕ)
audit_files jobs scenario run prec = (kinds.Jobs, jobs) ∷ precedence_file prec ++ (kinds.Scenario, scenario) ∷ (kinds.Run, run) ∷ []

-- what is printed of a run: that it is legal, or the first rule that it breaks
abbrev pub audit_reply : Table → Option Break → Reply
audit_reply table None = record { conclusion = Done; bytes = legal_text }
audit_reply table (Some broken) = record { conclusion = No; bytes = broken_text table broken }

-- It is printed by what is right of the run.
abbrev pub IsAuditReply : Table → ℕ → List (ℕ × ℕ) → List Place → Reply → Type 0
IsAuditReply table m scenario schedule reply = (answer : Option Break) × Audits table m scenario schedule answer × (reply ≡ audit_reply table answer)

-- The run that the files give is legal. Every schedule that is legal for its scenario on these cores has its starts, so the one
-- that `replay` prints for the same files has them.
pub record PrintsLegal (jobs scenario run : List ℕ) (prec : Option (List ℕ)) (cores : ℕ) (files : SeenFiles) (out out' : SeenSink) : Type 0 where
  pub table : Table
  -- the release and the cost of each job
  pub rows : List (ℕ × ℕ)
  -- the run that was recorded
  pub schedule : List Place
  pub comes : ComesTo (audit_plan jobs scenario run prec cores) files.contents (Ok (AuditsRun table cores rows schedule))
  pub is_table : IsTable table
  pub fits : Fits table rows
  pub legal : Legal table cores rows schedule
  pub replays : ComesTo (replay_plan jobs scenario prec cores) files.contents (Ok (Replays table cores rows))
  pub same_starts : (other : List Place) → Legal table cores rows other
      → (j : ℕ) → j < length table.jobs → start_of other j ≡ start_of schedule j
  pub printed : GrowsBy out.taken out'.taken legal_text

-- where the words ask for an audit and it ended with Ok, the run is legal
abbrev pub PrintsLegals : List (List ℕ) → SeenFiles → SeenSink → SeenSink → Status → Type 0
PrintsLegals words files out out' status = status ≡ statuses.Ok → (jobs scenario run : List ℕ) (prec : Option (List ℕ)) (cores : ℕ)
    → WordsOf words (commands.Audit jobs scenario run prec cores) → PrintsLegal jobs scenario run prec cores files out out'
