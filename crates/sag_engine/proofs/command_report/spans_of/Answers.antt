use Rattle.std.proofs.Common.{◌≡◌, ◌∙◌, List, ap, arith, length, min, take}
use Rattle.sag_time.specs.Interval.{Interval}
use Rattle.graph_check.specs.Told.{entries_of}
use Rattle.sag_engine.specs.Report.{entry_spans}
use Rattle.sag_engine.proofs.ReportLemmas.{spans_of_entries}
use Rattle.sag_engine.proofs.command_report.spans_of.Goals as goal

pub returns : goal.returns
returns c =
    let spans = c.args.yes.now.spans.items in
    let marks = c.args.yes.now.marks.items in
    let count : c.min-count.result ≡ min (length spans) (length marks) = omega (arith, c.len.ensures, c.len-2.ensures, c.min-count.ensures) in
    let before : take c.min-count.result spans ≡ entry_spans (entries_of spans marks) = ap (λ n. take n spans) count ∙ spans_of_entries spans marks in
    ap (λ (xs : List Interval). take c.min-count.result xs) c.as_slice.ensures.value ∙ before
