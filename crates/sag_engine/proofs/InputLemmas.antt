-- What is known of files that were accepted.
use Rattle.std.proofs.Common.{◌≡◌, ℕ, List, [], Option, None, Some, Ok, ap}
use Rattle.sag_edge.specs.Contents.{Contents}
use Rattle.job_model.specs.Table.{Table, IsTable}
use Rattle.job_model.specs.Scenario.{Fits}
use Rattle.sag_engine.specs.Plan.{ComesTo, file_plan}
use Rattle.sag_engine.specs.Inputs.{JobsJudged, PrecedenceJudged, ScenarioJudged, jobs_plan, precedence_plan, scenario_plan, table_plan}
use Rattle.sag_engine.proofs.PlanLemmas.{comes_split, judged_so}

-- a file that was judged and accepted
pub jobs_judged : (name : List ℕ) (m : Option Contents) (table : Table) → ComesTo (jobs_plan name) m (Ok table) → (bytes : List ℕ) × JobsJudged bytes (Ok table)
unfolding jobs_plan
jobs_judged name m table h =
    let s = comes_split (file_plan _ name _) _ m table h in
    (s.0, judged_so (JobsJudged s.0) m (Ok table) s.2)

-- the table of a job file has no precedence edges
pub accepted_no_edges : (name : List ℕ) (m : Option Contents) (table : Table) → ComesTo (jobs_plan name) m (Ok table) → table.edges ≡ []
accepted_no_edges name m table h = ap (λ t. t.edges) (jobs_judged name m table h).1.2

-- a table that comes of a table and a precedence file is one
with_precedence : (table : Table) (prec : Option (List ℕ)) (m : Option Contents) (whole : Table) → IsTable table → ComesTo (precedence_plan table prec) m (Ok whole) → IsTable whole
unfolding precedence_plan
with_precedence table None m whole is_table h = let same : table ≡ whole = cc in rw (← same) is_table
with_precedence table (Some name) m whole is_table h =
    let s = comes_split (file_plan _ name _) _ m whole h in
    (judged_so (PrecedenceJudged table s.0) m (Ok whole) s.2).4

-- an accepted table is one
pub accepted_table : (jobs : List ℕ) (prec : Option (List ℕ)) (m : Option Contents) (table : Table) → ComesTo (table_plan jobs prec) m (Ok table) → IsTable table
unfolding table_plan
accepted_table jobs prec m table h =
    let s = comes_split (jobs_plan jobs) (λ t. precedence_plan t prec) m table h in
    with_precedence s.0 prec m table (jobs_judged jobs m s.0 s.1).1.3 s.2

-- an accepted scenario fits its table
pub accepted_fits : (table : Table) (name : List ℕ) (m : Option Contents) (rows : List (ℕ × ℕ)) → ComesTo (scenario_plan table name) m (Ok rows) → Fits table rows
unfolding scenario_plan
accepted_fits table name m rows h =
    let s = comes_split (file_plan _ name _) _ m rows h in
    (judged_so (ScenarioJudged table s.0) m (Ok rows) s.2).1
