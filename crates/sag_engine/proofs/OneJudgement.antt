-- Of the bytes of a file there is one judgement.
--     FileLaws                                        what other crates prove of the files of the subject
--     jobs_same, precedence_same, scenario_same       of a file's bytes there is one judgement
use Rattle.std.proofs.Common.{◌≡◌, ◌∙◌, ℕ, inl, inr, List, Result, Ok, Err, sym, ap, subst, map}
use Rattle.csv_numbers.specs.Laws.{OneFirstFault, RowsKeepRules}
use Rattle.job_model.specs.FaultLaws.{EdgesKeepRules, OneEdgeFault, OneTableFault, TablesKeepRules}
use Rattle.job_model.specs.Table.{IsTable, Table, table_of}
use Rattle.job_model.specs.TableFaults.{FirstTableFault}
use Rattle.job_model.specs.EdgeFaults.{FirstEdgeFault, with_edges}
use Rattle.job_model.specs.JobRow.{job_columns}
use Rattle.job_csv.specs.Laws.{OneJobList}
use Rattle.side_csv.specs.Laws.{OnePrecedence, OnePrecedenceFault, OneScenario, OneScenarioFault, PrecedenceKeepsRules, ScenariosKeepRules}
use Rattle.sag_texts.specs.declared.fault.FileKind.TheVariants as kinds
use Rattle.sag_texts.specs.declared.fault.Fault.{Fault}
use Rattle.sag_texts.specs.declared.fault.Fault.TheVariants as faults
use Rattle.sag_engine.specs.Inputs.{JobsJudged, JobsRefused, PrecedenceJudged, PrecedenceRefused, ScenarioJudged, ScenarioRefused, told_fault}

-- what other crates prove of the files of the subject
pub record FileLaws : Type 0 where
  pub rows_keep_rules : RowsKeepRules
  pub one_first_fault : OneFirstFault
  pub one_job_list : OneJobList
  pub tables_keep_rules : TablesKeepRules
  pub one_table_fault : OneTableFault
  pub edges_keep_rules : EdgesKeepRules
  pub one_edge_fault : OneEdgeFault
  pub one_precedence : OnePrecedence
  pub one_precedence_fault : OnePrecedenceFault
  pub precedence_keeps_rules : PrecedenceKeepsRules
  pub one_scenario : OneScenario
  pub one_scenario_fault : OneScenarioFault
  pub scenarios_keep_rules : ScenariosKeepRules

module _ (laws : FileLaws) where
  -- a job file that is accepted is not refused
  jobs_accepted : (bytes : List ℕ) (table : Table) (fault : Fault) → JobsJudged bytes (Ok table) → JobsRefused bytes fault → ⊥
  jobs_accepted bytes table fault (rows, reads, is, is_table) (inl (e, told, other, first)) = laws.rows_keep_rules bytes 8 (map job_columns rows) reads e other first
  jobs_accepted bytes table fault (rows, reads, is, is_table) (inr (e, told, other, (rows', reads', first))) =
      let same : rows' ≡ rows = laws.one_job_list bytes rows' rows reads' reads in
      laws.tables_keep_rules rows (subst IsTable is is_table) e other (subst (λ l. FirstTableFault l e) same first)

  jobs_refused : (bytes : List ℕ) (one two : Fault) → JobsRefused bytes one → JobsRefused bytes two → one ≡ two
  jobs_refused bytes one two (inl (e, told, other, first)) (inl (e', told', other', first')) = told ∙ ap (faults.Csv kinds.Jobs) (laws.one_first_fault bytes 8 e e' other other' first first') ∙ sym told'
  jobs_refused bytes one two (inl (e, told, other, first)) (inr (e', told', other', (rows, reads, first'))) = absurd (laws.rows_keep_rules bytes 8 (map job_columns rows) reads e other first)
  jobs_refused bytes one two (inr (e', told', other', (rows, reads, first'))) (inl (e, told, other, first)) = absurd (laws.rows_keep_rules bytes 8 (map job_columns rows) reads e other first)
  jobs_refused bytes one two (inr (e, told, other, (rows, reads, first))) (inr (e', told', other', (rows', reads', first'))) =
      let same : rows' ≡ rows = laws.one_job_list bytes rows' rows reads' reads in
      told ∙ ap faults.Table (laws.one_table_fault rows e e' other other' first (subst (λ l. FirstTableFault l e') same first')) ∙ sym told'

  pub jobs_same : (bytes : List ℕ) (v w : Result Table Fault) → JobsJudged bytes v → JobsJudged bytes w → v ≡ w
  jobs_same bytes (Ok t) (Ok u) (rows, reads, is, is_table) (rows', reads', is', is_table') = ap Ok (is ∙ ap table_of (laws.one_job_list bytes rows rows' reads reads') ∙ sym is')
  jobs_same bytes (Ok t) (Err f) a b = absurd (jobs_accepted bytes t f a b)
  jobs_same bytes (Err f) (Ok t) a b = absurd (jobs_accepted bytes t f b a)
  jobs_same bytes (Err f) (Err g) a b = ap Err (jobs_refused bytes f g a b)

  module _ (table : Table) (is_table : IsTable table) (bytes : List ℕ) where
    -- a precedence file that is accepted is not refused
    precedence_accepted : (whole : Table) (fault : Fault) → PrecedenceJudged table bytes (Ok whole) → PrecedenceRefused table bytes fault → ⊥
    precedence_accepted whole fault (rows, reads, keep, is, whole_is) (inl (e, told, other, first)) = laws.precedence_keeps_rules table bytes rows reads e other first
    precedence_accepted whole fault (rows, reads, keep, is, whole_is) (inr (e, told, other, (rows', reads', first))) =
        let same : rows' ≡ rows = laws.one_precedence table bytes rows' rows is_table reads' reads in
        laws.edges_keep_rules rows keep e other (subst (λ l. FirstEdgeFault l e) same first)

    precedence_refused : (one two : Fault) → PrecedenceRefused table bytes one → PrecedenceRefused table bytes two → one ≡ two
    precedence_refused one two (inl (e, told, other, first)) (inl (e', told', other', first')) =
        told ∙ ap (faults.Side kinds.Precedence) (laws.one_precedence_fault table bytes e e' other other' first first') ∙ sym told'
    precedence_refused one two (inl (e, told, other, first)) (inr (e', told', other', (rows, reads, first'))) = absurd (laws.precedence_keeps_rules table bytes rows reads e other first)
    precedence_refused one two (inr (e', told', other', (rows, reads, first'))) (inl (e, told, other, first)) = absurd (laws.precedence_keeps_rules table bytes rows reads e other first)
    precedence_refused one two (inr (e, told, other, (rows, reads, first))) (inr (e', told', other', (rows', reads', first'))) =
        let same : rows' ≡ rows = laws.one_precedence table bytes rows' rows is_table reads' reads in
        told ∙ ap faults.Edge (laws.one_edge_fault rows e e' other other' first (subst (λ l. FirstEdgeFault l e') same first')) ∙ sym told'

    pub precedence_same : (v w : Result Table Fault) → PrecedenceJudged table bytes v → PrecedenceJudged table bytes w → v ≡ w
    precedence_same (Ok t) (Ok u) (rows, reads, keep, is, whole_is) (rows', reads', keep', is', whole_is') =
        ap Ok (is ∙ ap (with_edges table) (laws.one_precedence table bytes rows rows' is_table reads reads') ∙ sym is')
    precedence_same (Ok t) (Err f) a b = absurd (precedence_accepted t f a b)
    precedence_same (Err f) (Ok t) a b = absurd (precedence_accepted t f b a)
    precedence_same (Err f) (Err g) a b = ap Err (precedence_refused f g a b)

    scenario_refused : (one two : Fault) → ScenarioRefused table bytes one → ScenarioRefused table bytes two → one ≡ two
    scenario_refused one two (e, told, other, first) (e', told', other', first') =
        told ∙ ap (told_fault kinds.Scenario table) (laws.one_scenario_fault table bytes e e' is_table other other' first first') ∙ sym told'

    pub scenario_same : (v w : Result (List (ℕ × ℕ)) Fault) → ScenarioJudged table bytes v → ScenarioJudged table bytes w → v ≡ w
    scenario_same (Ok s) (Ok t) (text, fits) (text', fits') = ap Ok (laws.one_scenario table bytes s t text text')
    scenario_same (Ok s) (Err f) (text, fits) (e, told, other, first) = absurd (laws.scenarios_keep_rules table bytes s is_table text e other first)
    scenario_same (Err f) (Ok s) (e, told, other, first) (text, fits) = absurd (laws.scenarios_keep_rules table bytes s is_table text e other first)
    scenario_same (Err f) (Err g) a b = ap Err (scenario_refused f g a b)
