use Rattle.sag_engine.specs.Promises.{texts}
use Rattle.sag_engine.proofs.CheckLemmas.{yeses_by}
use Rattle.sag_engine.proofs.ConvertLemmas.{conversions_by}
use Rattle.sag_engine.proofs.ReportLemmas.{reports_by}
use Rattle.sag_engine.proofs.GraphCertificate.{certificates_by}
use Rattle.sag_engine.proofs.ReplayLemmas.{runs_by}
use Rattle.sag_engine.proofs.AttainLemmas.{ends_by}
use Rattle.sag_engine.proofs.AuditLemmas.{legals_by}
use Rattle.sag_engine.proofs.UnrollLemmas.{job_files_by}
use Rattle.sag_engine.proofs.WhatIfCertificate.{whatifs_by}
use Rattle.sag_engine.proofs.GapMeaning.{GapLaws, gaps_by, trials_by}
use Rattle.sag_engine.proofs.RunLemmas.{answers_by, contents_by, fault_text_by, finished_by, later_by, none_on_read_fault_by, prefix_by, read_cause_by, tells_by, text_by, write_cause_by}
use Rattle.sag_engine.proofs.run.sag_run.Goals as goal

pub returns : goal.returns
returns g c =
    let words = texts c.args.words.now in
    let works = c.work-end.ensures in
    let gap_laws : GapLaws =
    record { trials_fit = c.trials_fit.ensures; graph_spans_hold = c.graph_spans_hold.ensures; inner_ends_in_spans = c.inner_ends_in_spans.ensures; no_gap_on_one_core = c.no_gap_on_one_core.ensures } in
    rw c.status_of.ensures (record {
      answer = answers_by words works;
      runs = runs_by c.one_command.ensures c.one_run.ensures c.starts_agree.ensures words works;
      yes = yeses_by c.one_command.ensures words works;
      reports = reports_by c.one_command.ensures c.responses_within_wcrt.ensures words works;
      converts = conversions_by c.one_command.ensures c.converted_is_readable.ensures c.old_is_valid.ensures words works;
      job_files = job_files_by c.one_command.ensures words works;
      legals = legals_by c.one_command.ensures c.starts_agree.ensures words works;
      ends = ends_by c.one_command.ensures c.ends_are_attained.ensures c.job_lines_tell_spans.ensures words works;
      what_ifs = whatifs_by c.one_command.ensures (record { valid = c.graph_is_valid.ensures; readable = c.graph_is_readable.ensures; short = c.graph_is_short.ensures }) c.edits_keep_tables.ensures words works;
      gaps = gaps_by c.one_command.ensures gap_laws words works;
      trials = trials_by c.one_command.ensures gap_laws words works;
      certificates = certificates_by c.one_command.ensures (record { valid = c.graph_is_valid.ensures; readable = c.graph_is_readable.ensures; short = c.graph_is_short.ensures }) words works;
      finished = finished_by words works;
      read_fault = read_cause_by words works;
      none_on_read_fault = none_on_read_fault_by words works;
      write_fault = write_cause_by words works;
      prefix = prefix_by words works;
      text = text_by words works c.explain.ensures;
      fault_text = fault_text_by words works c.explain.ensures;
      contents = contents_by words works;
      later = later_by words works c.explain.ensures;
      tells = tells_by words works;
    })
