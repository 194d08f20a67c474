-- Laws of what is kept of runs, and of trials.
--     TakesKeepEnds       the ends stay those over the scenarios taken where the next one is taken
--     PlainTrialsFit      the trials that need no graph fit their table
use Rattle.std.specs.Prelude.{ℕ, List}
use Rattle.job_model.specs.Scenario.{Fits}
use Rattle.job_model.specs.Table.{IsTable, Table}
use Rattle.gap_report.specs.InnerBounds.{InnerBounds, TakesScenario}
use Rattle.gap_report.specs.InnerEnds.{HoldInnerEnds}
use Rattle.gap_report.specs.Trials.{plain_trial}

-- The ends of each job stay its least and greatest finish over the scenarios taken where the next one is taken.
abbrev pub TakesKeepEnds : Type 0
TakesKeepEnds =
    (trials : ℕ → List (ℕ × ℕ)) (old new : InnerBounds) → HoldInnerEnds trials old → TakesScenario old (trials old.taken) new → HoldInnerEnds trials new

-- The trials that need no graph fit their table.
abbrev pub PlainTrialsFit : Type 0
PlainTrialsFit = (table : Table) (k : ℕ) → IsTable table → Fits table (plain_trial table k)
