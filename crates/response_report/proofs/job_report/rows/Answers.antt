use Rattle.std.proofs.Common.{rules, ◌≡◌, ◌∙◌, ◌<◌, ◌++◌, ◌∷◌, ◌+◌, [], ap, arith, get_or, length, refl, sym, take}
use Rattle.std.proofs.lemmas.List.{take_all, take_more}
use Rattle.std.proofs.lemmas.Option.{get_or_from_slice_get, slice_get_read}
use Rattle.job_model.specs.declared.job_row.Job.{Job}
use Rattle.job_model.specs.Table.{job_at, no_job}
use Rattle.response_report.specs.ReportRows.{report_row, report_rows}
use Rattle.response_report.specs.declared.report_row.ReportRow.{ReportRow}
use Rattle.response_report.proofs.ZippedRows.{length-zipped, zipped_at}
use Rattle.response_report.proofs.job_report.rows.Goals as goal

pub loop-no-preserved : goal.loop-no-preserved
loop-no-preserved c =
    let table = c.args.table.now in
    let spans = c.args.spans.now in
    let rows = report_rows table spans in
    let no = c.loop-no.no in
    let row = c.row_of.result in
    let long = length-zipped report_row table.jobs spans c.requires in
    let is_job : no < length table.jobs = omega (arith, c.loop-no-test.true, c.len-count.ensures.count) in
    let number : c.from-in-loop-no.result ≡ no = search rules in
    let is_row : row ≡ report_row (job_at table no) c.index-spans-from.result = c.row_of.ensures ∙ ap (λ (a : Job). report_row a c.index-spans-from.result) c.job.ensures.job in
    let at = zipped_at report_row table.jobs spans no c.index-spans-from.result no_job is_job (slice_get_read spans (length spans) no c.index-spans-from.result refl (omega (arith, is_job, c.requires)) (c.index-spans-from.is ∙ ap (λ n. get_or spans n c.index-spans-from.result) number)) in
    let here : get_or rows no row ≡ row = get_or_from_slice_get rows no (report_row (job_at table no) c.index-spans-from.result) row at ∙ sym is_row in
    let below : no < length rows = omega (arith, is_job, long) in
    c.in_ok-push.ensures.items ∙ ap (λ l. l ++ row ∷ []) c.loop-no.invariant ∙ sym (take_more rows no row below ∙ ap (λ (r : ReportRow). take no rows ++ r ∷ []) here)

pub returns : goal.returns
returns c =
    let rows = report_rows c.args.table.now c.args.spans.now in
    let long = length-zipped report_row c.args.table.now.jobs c.args.spans.now c.requires in
    c.loop-no.invariant ∙ take_all c.loop-no.no rows (omega (arith, c.loop-no-test.false, c.len-count.ensures.count, long))
