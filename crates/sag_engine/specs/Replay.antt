-- The command `replay`.
--     replay_plan               its files in their order, and the work that they come to
--     replay_files              their kinds and names
--     IsRunReply                this may be printed for the run of a scenario
--     PrintsRun, PrintsRuns     the run that was printed
use Rattle.std.specs.Prelude.{ℕ, ◌≡◌, ◌<◌, ◌++◌, List, [], ◌∷◌, length, Option, Result, Ok}
use Rattle.sag_edge.specs.Reading.{SeenFiles}
use Rattle.sag_edge.specs.Writing.{SeenSink, GrowsBy}
use Rattle.sag_texts.specs.declared.fault.FileKind.{FileKind}
use Rattle.sag_texts.specs.declared.fault.FileKind.TheVariants as kinds
use Rattle.sag_texts.specs.declared.fault.Fault.{Fault}
use Rattle.sag_words.specs.declared.command.Command.TheVariants as commands
use Rattle.sag_words.specs.Words.{WordsOf}
use Rattle.job_model.specs.Scenario.{Fits}
use Rattle.job_model.specs.Table.{IsTable, Table}
use Rattle.run_meaning.specs.declared.places.Place.{Place}
use Rattle.run_meaning.specs.Legal.{Legal, LowestIdle}
use Rattle.run_meaning.specs.Ready.{start_of}
use Rattle.replay.specs.ScheduleText.{schedule_text}
use Rattle.sag_engine.specs.declared.conclusion.Conclusion.TheVariants.{Done}
use Rattle.sag_engine.specs.declared.status.Status.{Status}
use Rattle.sag_engine.specs.declared.status.Status.TheVariants as statuses
use Rattle.sag_engine.specs.Plan.{Plan, ◌>>=◌, ComesTo}
use Rattle.sag_engine.specs.Plan.Plan.{Ends}
use Rattle.sag_engine.specs.Inputs.{table_plan, scenario_plan}
use Rattle.sag_engine.specs.Work.{Work, Reply, precedence_file}
use Rattle.sag_engine.specs.Work.Work.{Replays}

-- the job file, the precedence file where one is named, and then the scenario file, for the run on so many cores
abbrev pub replay_plan : List ℕ → List ℕ → Option (List ℕ) → ℕ → Plan (Result Work Fault)
replay_plan jobs scenario prec cores = do
  table ← table_plan jobs prec
  rows ← scenario_plan table scenario
  Ends (Ok (Replays table cores rows))

-- the kinds and names of its files
abbrev pub replay_files : List ℕ → List ℕ → Option (List ℕ) → List (FileKind × List ℕ)
replay_files jobs scenario prec = (kinds.Jobs, jobs) ∷ precedence_file prec ++ (kinds.Scenario, scenario) ∷ []

-- A run is printed as a schedule that is legal for its scenario, with each job on the lowest idle core.
abbrev pub IsRunReply : Table → ℕ → List (ℕ × ℕ) → Reply → Type 0
IsRunReply table m scenario reply = (schedule : List Place) × Legal table m scenario schedule × LowestIdle table scenario schedule
    × (reply ≡ record { conclusion = Done; bytes = schedule_text table scenario schedule })

-- The run of the scenario that the files give was printed: a schedule that is legal, with each job on the lowest idle core.
-- Every schedule that is legal for this scenario on these cores has the same starts, and with each job on the lowest idle core
-- it is this one.
pub record PrintsRun (jobs scenario : List ℕ) (prec : Option (List ℕ)) (cores : ℕ) (files : SeenFiles) (out out' : SeenSink) : Type 0 where
  pub table : Table
  -- the release and the cost of each job
  pub rows : List (ℕ × ℕ)
  pub comes : ComesTo (replay_plan jobs scenario prec cores) files.contents (Ok (Replays table cores rows))
  pub is_table : IsTable table
  pub fits : Fits table rows
  pub schedule : List Place
  pub legal : Legal table cores rows schedule
  pub lowest_idle : LowestIdle table rows schedule
  pub same_starts : (other : List Place) → Legal table cores rows other
      → (j : ℕ) → j < length table.jobs → start_of other j ≡ start_of schedule j
  pub one_run : (other : List Place) → Legal table cores rows other → LowestIdle table rows other → other ≡ schedule
  pub printed : GrowsBy out.taken out'.taken (schedule_text table rows schedule)

-- where the words ask for a replay and it was done, the run of its scenario was printed
abbrev pub PrintsRuns : List (List ℕ) → SeenFiles → SeenSink → SeenSink → Status → Type 0
PrintsRuns words files out out' status = status ≡ statuses.Ok → (jobs scenario : List ℕ) (prec : Option (List ℕ)) (cores : ℕ)
    → WordsOf words (commands.Replay jobs scenario prec cores) → PrintsRun jobs scenario prec cores files out out'
