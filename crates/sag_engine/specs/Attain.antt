-- The command `attain`.
--     JobNamed table task job end     the number of the job with these IDs, or that there is none
--     job_plan table task job         the job is looked up
--     attain_plan, attain_files       its file, and the work that it comes to
--     attain_reply                    what is printed, by the first offer that exceeds the budget, if there is one
--     PrintsEnd, PrintsEnds           the scenario that was printed, and what it means
use Rattle.std.specs.Prelude.{ℕ, ◌≡◌, ◌<◌, List, [], ◌∷◌, length, map, Contains, Option, None, Some, Result, Ok, Err}
use Rattle.sag_edge.specs.Reading.{SeenFiles}
use Rattle.sag_edge.specs.Writing.{SeenSink, GrowsBy}
use Rattle.sag_texts.specs.declared.fault.FileKind.{FileKind}
use Rattle.sag_texts.specs.declared.fault.FileKind.TheVariants as kinds
use Rattle.sag_texts.specs.declared.fault.Fault.{Fault}
use Rattle.sag_texts.specs.declared.fault.Fault.TheVariants as faults
use Rattle.sag_words.specs.declared.command.Command.TheVariants as commands
use Rattle.sag_words.specs.Words.{WordsOf}
use Rattle.sag_time.specs.Interval.{Interval}
use Rattle.job_model.specs.declared.interval_end.End.{End}
use Rattle.job_model.specs.Scenario.{Fits}
use Rattle.job_model.specs.Table.{IsTable, Table, id_of, job_at}
use Rattle.run_meaning.specs.declared.places.Place.{Place}
use Rattle.run_meaning.specs.Legal.{Legal}
use Rattle.run_meaning.specs.Ready.{finish_of}
use Rattle.side_csv.specs.ScenarioRows.{scenario_text}
use Rattle.sag_graph.specs.Budget.{Spending}
use Rattle.sag_graph.specs.CertificateText.{lines_of_graph}
use Rattle.sag_graph.specs.Graph.{graph_of}
use Rattle.sag_graph.specs.Lines.{line_of_job}
use Rattle.one_core.specs.Extreme.{extreme, own_end}
use Rattle.sag_engine.specs.declared.conclusion.Conclusion.TheVariants.{Done, Spent}
use Rattle.sag_engine.specs.declared.status.Status.{Status}
use Rattle.sag_engine.specs.declared.status.Status.TheVariants as statuses
use Rattle.sag_engine.specs.Plan.{ComesTo, Plan, ◌>>=◌, judged}
use Rattle.sag_engine.specs.Plan.Plan.{Ends}
use Rattle.sag_engine.specs.Inputs.{table_plan}
use Rattle.sag_engine.specs.Work.{Work, Reply}
use Rattle.sag_engine.specs.Work.Work.{Attains}

-- the number of the job with these IDs, or that there is none
abbrev pub JobNamed : Table → ℕ → ℕ → Result ℕ Fault → Type 0
JobNamed table task job (Ok j) = (j < length table.jobs) × (id_of (job_at table j) ≡ (task, job))
JobNamed table task job (Err fault) = (fault ≡ faults.NoJob task job) × ¬ Contains (map id_of table.jobs) (task, job)

-- the job with these IDs
unfoldable pub job_plan : Table → ℕ → ℕ → Plan (Result ℕ Fault)
job_plan table task job = judged (JobNamed table task job)

-- the job file, which has the job, for an end of its interval within a budget of states
abbrev pub attain_plan : List ℕ → ℕ → ℕ → End → ℕ → Plan (Result Work Fault)
attain_plan jobs task job end budget = do
  table ← table_plan jobs None
  j ← job_plan table task job
  Ends (Ok (Attains table j end budget))

-- the kind and name of its file
abbrev pub attain_files : List ℕ → List (FileKind × List ℕ)
attain_files jobs = (kinds.Jobs, jobs) ∷ []

-- The scenario for that end; where an offer exceeds the budget, nothing.
abbrev pub attain_reply : Table → ℕ → End → Option Spending → Reply
attain_reply table j end None = record { conclusion = Done; bytes = scenario_text table (extreme table (graph_of table 1) j end) }
attain_reply table j end (Some s) = record { conclusion = Spent s.level s.states s.edges; bytes = [] }

-- A scenario was printed, and it fits. In every legal schedule of it on one core the job finishes at that end of its interval,
-- which stands in the job's line of the certificate that `analyse` prints for the same file on one core.
pub record PrintsEnd (jobs : List ℕ) (task job : ℕ) (end : End) (files : SeenFiles) (out out' : SeenSink) : Type 0 where
  pub table : Table
  pub comes : ComesTo (table_plan jobs None) files.contents (Ok table)
  pub is_table : IsTable table
  pub number : ℕ
  pub is_job : number < length table.jobs
  pub named : id_of (job_at table number) ≡ (task, job)
  -- the release and the cost of each job
  pub rows : List (ℕ × ℕ)
  pub fits : Fits table rows
  pub printed : GrowsBy out.taken out'.taken (scenario_text table rows)
  -- when the job finishes, by the certificate
  pub span : Interval
  pub line : Contains (lines_of_graph table 1) (line_of_job table (number, span))
  pub finishes : (schedule : List Place) → Legal table 1 rows schedule → finish_of rows schedule number ≡ own_end end span

-- where the words ask for an end and it was attained, the scenario for it was printed
abbrev pub PrintsEnds : List (List ℕ) → SeenFiles → SeenSink → SeenSink → Status → Type 0
PrintsEnds words files out out' status = status ≡ statuses.Ok → (jobs : List ℕ) (task job : ℕ) (end : End) (budget : ℕ)
    → WordsOf words (commands.Attain jobs task job end budget) → PrintsEnd jobs task job end files out out'
