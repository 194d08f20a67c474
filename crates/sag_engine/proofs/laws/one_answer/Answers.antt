use Rattle.sag_engine.proofs.OneAnswer as law
use Rattle.sag_engine.proofs.laws.one_answer.Goals as goal

pub returns : goal.returns
returns c = law.one_answer (record {
  one_command = c.one_command.ensures;
  files = record {
    rows_keep_rules = c.rows_keep_rules.ensures;
    one_first_fault = c.one_first_fault.ensures;
    one_job_list = c.one_job_list.ensures;
    tables_keep_rules = c.tables_keep_rules.ensures;
    one_table_fault = c.one_table_fault.ensures;
    edges_keep_rules = c.edges_keep_rules.ensures;
    one_edge_fault = c.one_edge_fault.ensures;
    one_precedence = c.one_precedence.ensures;
    one_precedence_fault = c.one_precedence_fault.ensures;
    precedence_keeps_rules = c.precedence_keeps_rules.ensures;
    one_scenario = c.one_scenario.ensures;
    one_scenario_fault = c.one_scenario_fault.ensures;
    scenarios_keep_rules = c.scenarios_keep_rules.ensures;
  };
  certificates = record {
    one_end = c.one_end.ensures;
    one_text_fault = c.one_text_fault.ensures;
    no_fault_of_readable = c.no_fault_of_readable.ensures;
  };
  conversions = record {
    one_conversion = c.one_conversion.ensures;
    one_text_fault = c.one_text_fault.ensures;
    no_fault_of_readable = c.no_fault_of_readable.ensures;
  };
  one_run = c.one_run.ensures;
  tasks = record {
    one_task_list = c.one_task_list.ensures;
    one_task_fault = c.one_task_fault.ensures;
    tasks_keep_rules = c.tasks_keep_rules.ensures;
    one_unroll_fault = c.one_unroll_fault.ensures;
    unrolled_keeps_rules = c.unrolled_keeps_rules.ensures;
  };
  audits = record {
    one_recorded_run = c.one_recorded_run.ensures;
    one_run_fault = c.one_run_fault.ensures;
    runs_keep_rules = c.runs_keep_rules.ensures;
    one_first_break = c.one_first_break.ensures;
  };
  edits = record {
    one_list_of_edits = c.one_list_of_edits.ensures;
    one_edit_fault = c.one_edit_fault.ensures;
    edits_keep_rules = c.edits_keep_rules.ensures;
  };
  one_gap = c.one_gap.ensures;
})
