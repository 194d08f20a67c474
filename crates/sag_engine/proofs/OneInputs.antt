-- Over known files the files of the subject come to one table and one scenario, or one refusal.
use Rattle.std.proofs.Common.{ℕ, List, Option, None, Some, Ok}
use Rattle.sag_edge.specs.Contents.{Contents}
use Rattle.sag_texts.specs.declared.fault.FileKind.TheVariants as kinds
use Rattle.job_model.specs.Table.{IsTable, Table}
use Rattle.sag_engine.specs.declared.fetch.TheConstants.{MOST_FILE_BYTES}
use Rattle.sag_engine.specs.Plan.{file_plan, judged}
use Rattle.sag_engine.specs.Inputs.{JobsJudged, PrecedenceJudged, ScenarioJudged, jobs_plan, precedence_plan, scenario_plan, table_plan}
use Rattle.sag_engine.proofs.InputLemmas.{jobs_judged}
use Rattle.sag_engine.proofs.OneJudgement.{FileLaws, jobs_same, precedence_same, scenario_same}
use Rattle.sag_engine.proofs.OnePlan.{IsOne, ends_one, file_one, judged_one, then_one}

module _ (laws : FileLaws) (contents : Contents) where
  jobs_one : (name : List ℕ) → IsOne contents (jobs_plan name)
  unfolding jobs_plan
  jobs_one name = then_one contents (file_plan kinds.Jobs name MOST_FILE_BYTES) (λ bytes. judged (JobsJudged bytes))
      (file_one contents kinds.Jobs name MOST_FILE_BYTES) (λ bytes comes. judged_one contents (JobsJudged bytes) (jobs_same laws bytes))

  precedence_one : (table : Table) → IsTable table → (name : Option (List ℕ)) → IsOne contents (precedence_plan table name)
  unfolding precedence_plan
  precedence_one table is_table None = ends_one contents (Ok table)
  precedence_one table is_table (Some name) = then_one contents (file_plan kinds.Precedence name MOST_FILE_BYTES) (λ bytes. judged (PrecedenceJudged table bytes))
      (file_one contents kinds.Precedence name MOST_FILE_BYTES) (λ bytes comes. judged_one contents (PrecedenceJudged table bytes) (precedence_same laws table is_table bytes))

  pub table_one : (jobs : List ℕ) (prec : Option (List ℕ)) → IsOne contents (table_plan jobs prec)
  unfolding table_plan
  table_one jobs prec = then_one contents (jobs_plan jobs) (λ table. precedence_plan table prec)
      (jobs_one jobs) (λ table comes. precedence_one table (jobs_judged jobs (Some contents) table comes).1.3 prec)

  pub scenario_one : (table : Table) → IsTable table → (name : List ℕ) → IsOne contents (scenario_plan table name)
  unfolding scenario_plan
  scenario_one table is_table name = then_one contents (file_plan kinds.Scenario name MOST_FILE_BYTES) (λ bytes. judged (ScenarioJudged table bytes))
      (file_one contents kinds.Scenario name MOST_FILE_BYTES) (λ bytes comes. judged_one contents (ScenarioJudged table bytes) (scenario_same laws table is_table bytes))
