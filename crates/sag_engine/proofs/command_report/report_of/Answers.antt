use Rattle.std.proofs.Common.{◌∙◌, ap, length}
use Rattle.graph_check.specs.Told.{entries_of}
use Rattle.sag_engine.proofs.ReportLemmas.{length-spans}
use Rattle.sag_engine.proofs.command_report.report_of.Goals as goal

pub rows-requires : goal.rows-requires
rows-requires c =
    let jobs = entries_of c.args.yes.now.spans.items c.args.yes.now.marks.items in
    ap length c.spans_of.ensures ∙ length-spans jobs ∙ c.requires
