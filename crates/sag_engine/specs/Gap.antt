-- The command `gap`.
--     TrialJudged table trial end       the trial that is asked for, if one is, or that there is none of its number
--     trial_plan table trial            that is judged
--     gap_plan, gap_files               its files in their order, and the work that they come to
--     IsGapOutput table m trial bytes   these are the bytes of the comparison, or of the scenario of the trial
--     IsGapReply                        what may be printed, by the first offer that exceeds the budget, if there is one
--     PrintsGap, PrintsGaps             the comparison that was printed, and what it means
--     PrintsTrial, PrintsTrials         the scenario of a trial that was printed
use Rattle.std.specs.Prelude.{ℕ, ◌≡◌, ◌≤◌, ◌<◌, List, [], ◌∷◌, IfSome, Option, None, Some, Result, Ok, Err, slice_get}
use Rattle.sag_edge.specs.Reading.{SeenFiles}
use Rattle.sag_edge.specs.Writing.{SeenSink, GrowsBy}
use Rattle.sag_texts.specs.declared.fault.FileKind.{FileKind}
use Rattle.sag_texts.specs.declared.fault.FileKind.TheVariants as kinds
use Rattle.sag_texts.specs.declared.fault.Fault.{Fault}
use Rattle.sag_texts.specs.declared.fault.Fault.TheVariants as faults
use Rattle.sag_words.specs.declared.command.Command.TheVariants as commands
use Rattle.sag_words.specs.Words.{WordsOf}
use Rattle.job_model.specs.Scenario.{Fits}
use Rattle.job_model.specs.Table.{IsTable, Table}
use Rattle.run_meaning.specs.Guarantees.{FinishesWithin}
use Rattle.sag_graph.specs.Budget.{Spending}
use Rattle.side_csv.specs.ScenarioRows.{scenario_text}
use Rattle.gap_report.specs.declared.gap_row.GapRow.{GapRow}
use Rattle.gap_report.specs.GapText.{gap_text}
use Rattle.gap_report.specs.Trials.{last_trial}
use Rattle.gap_trials.specs.GapMeaning.{AreGapRows}
use Rattle.gap_trials.specs.Trials.{trial_of}
use Rattle.sag_engine.specs.declared.conclusion.Conclusion.TheVariants.{Done, Spent}
use Rattle.sag_engine.specs.declared.status.Status.{Status}
use Rattle.sag_engine.specs.declared.status.Status.TheVariants as statuses
use Rattle.sag_engine.specs.Plan.{ComesTo, Plan, ◌>>=◌, judged}
use Rattle.sag_engine.specs.Plan.Plan.{Ends}
use Rattle.sag_engine.specs.Inputs.{table_plan}
use Rattle.sag_engine.specs.Work.{Work, Reply, precedence_file}
use Rattle.sag_engine.specs.Work.Work.{Gaps}

-- the trial that is asked for, if one is, or that its number is above that of the last one
abbrev pub TrialJudged : Table → Option ℕ → Result (Option ℕ) Fault → Type 0
TrialJudged table trial (Ok known) = (known ≡ trial) × IfSome known (λ k. k ≤ last_trial table)
TrialJudged table trial (Err fault) = (k : ℕ) × (trial ≡ Some k) × (last_trial table < k) × (fault ≡ faults.NoTrial k (last_trial table))

-- the trial that is asked for, if one is
unfoldable pub trial_plan : Table → Option ℕ → Plan (Result (Option ℕ) Fault)
trial_plan table trial = judged (TrialJudged table trial)

-- the job file, the precedence file where one is named, and then the trial, for the graph on so many cores within a budget of
-- states
abbrev pub gap_plan : List ℕ → Option (List ℕ) → ℕ → ℕ → Option ℕ → Plan (Result Work Fault)
gap_plan jobs prec cores budget trial = do
  table ← table_plan jobs prec
  known ← trial_plan table trial
  Ends (Ok (Gaps table cores budget known))

-- the kinds and names of its files
abbrev pub gap_files : List ℕ → Option (List ℕ) → List (FileKind × List ℕ)
gap_files jobs prec = (kinds.Jobs, jobs) ∷ precedence_file prec

-- These are the bytes of the comparison of the graph with the runs of all trials; where a trial is named, of its scenario.
abbrev pub IsGapOutput : Table → ℕ → Option ℕ → List ℕ → Type 0
IsGapOutput table m None bytes = (rows : List GapRow) × AreGapRows table m rows × (bytes ≡ gap_text rows)
IsGapOutput table m (Some k) bytes = bytes ≡ scenario_text table (trial_of table m k)

-- Such bytes; where an offer exceeds the budget, nothing.
abbrev pub IsGapReply : Table → ℕ → Option ℕ → Option Spending → Reply → Type 0
IsGapReply table m trial None reply = (bytes : List ℕ) × IsGapOutput table m trial bytes × (reply ≡ record { conclusion = Done; bytes = bytes })
IsGapReply table m trial (Some s) reply = reply ≡ record { conclusion = Spent s.level s.states s.edges; bytes = [] }

-- A row was printed for each job, with its span in the graph, and with its least and greatest finish over the legal schedules of
-- all trials, each with the first trial that attains it. Every trial fits the table. In each legal schedule of any scenario the
-- job finishes within its span, and the inner ends lie in it; on one core without precedence they are its ends.
pub record PrintsGap (jobs : List ℕ) (prec : Option (List ℕ)) (cores : ℕ) (files : SeenFiles) (out out' : SeenSink) : Type 0 where
  pub table : Table
  pub comes : ComesTo (table_plan jobs prec) files.contents (Ok table)
  pub is_table : IsTable table
  pub rows : List GapRow
  pub are_rows : AreGapRows table cores rows
  pub trials_fit : (k : ℕ) → k ≤ last_trial table → Fits table (trial_of table cores k)
  pub spans_hold : (j : ℕ) (row : GapRow) → slice_get rows j ≡ Some row → FinishesWithin table cores j row.bcct row.wcct
  pub in_spans : (j : ℕ) (row : GapRow) → slice_get rows j ≡ Some row → (row.bcct ≤ row.inner_lo) × (row.inner_lo ≤ row.inner_hi) × (row.inner_hi ≤ row.wcct)
  pub no_gap : cores ≡ 1 → table.edges ≡ [] → (j : ℕ) (row : GapRow) → slice_get rows j ≡ Some row → (row.inner_lo ≡ row.bcct) × (row.inner_hi ≡ row.wcct)
  pub printed : GrowsBy out.taken out'.taken (gap_text rows)

-- where the words ask for a comparison and it was done, it was printed
abbrev pub PrintsGaps : List (List ℕ) → SeenFiles → SeenSink → SeenSink → Status → Type 0
PrintsGaps words files out out' status = status ≡ statuses.Ok → (jobs : List ℕ) (prec : Option (List ℕ)) (cores budget : ℕ)
    → WordsOf words (commands.Gap jobs prec cores budget None) → PrintsGap jobs prec cores files out out'

-- The scenario of a trial of the table was printed, and it fits.
pub record PrintsTrial (jobs : List ℕ) (prec : Option (List ℕ)) (cores trial : ℕ) (files : SeenFiles) (out out' : SeenSink) : Type 0 where
  pub table : Table
  pub comes : ComesTo (table_plan jobs prec) files.contents (Ok table)
  pub is_table : IsTable table
  pub is_trial : trial ≤ last_trial table
  pub fits : Fits table (trial_of table cores trial)
  pub printed : GrowsBy out.taken out'.taken (scenario_text table (trial_of table cores trial))

-- where the words ask for a trial and it was done, its scenario was printed
abbrev pub PrintsTrials : List (List ℕ) → SeenFiles → SeenSink → SeenSink → Status → Type 0
PrintsTrials words files out out' status = status ≡ statuses.Ok → (jobs : List ℕ) (prec : Option (List ℕ)) (cores budget trial : ℕ)
    → WordsOf words (commands.Gap jobs prec cores budget (Some trial)) → PrintsTrial jobs prec cores trial files out out'
