use Rattle.std.proofs.Common.{◌≡◌, ◌++◌, ◌∷◌, ◌<◌, [], ◌∙◌, ℕ, List, ap, arith, get_or, length, map, refl, sym}
use Rattle.std.specs.Prelude.{slice_index_or}
use Rattle.std.specs.List.{range_with_len}
use Rattle.std.proofs.lemmas.List.FromFn.{map-range_with_len_more}
use Rattle.std.proofs.lemmas.Option.{get_or_from_slice_get, slice_get_read}
use Rattle.sag_time.specs.Interval.{Interval}
use Rattle.job_model.specs.declared.job_row.Job.{Job}
use Rattle.job_model.specs.Table.{job_at}
use Rattle.gap_report.specs.GapRows.{gap_row, no_finish_span, no_inner_ends}
use Rattle.gap_report.specs.declared.gap_row.GapRow.{GapRow}
use Rattle.gap_report.specs.declared.inner_ends.InnerEnds.{InnerEnds}
use Rattle.gap_report.proofs.gap.rows_of.Goals as goal

pub loop-no-preserved : goal.loop-no-preserved
loop-no-preserved c =
    let table = c.args.table.now in
    let ends = c.args.ends.now in
    let spans = c.args.spans.now in
    let no = c.loop-no.no in
    let row : ℕ → GapRow = λ j. gap_row (job_at table j) (slice_index_or ends j no_inner_ends) (slice_index_or spans j no_finish_span) in
    let is_job : no < length table.jobs = omega (arith, c.loop-no-test.true, c.len-count.ensures.count) in
    let last : GapRow → List GapRow = λ r. map row (range_with_len 0 no) ++ r ∷ [] in
    let place : c.from-place.result ≡ no = c.from-place.ensures in
    let span = c.index-spans-place.result in
    let ends_are : InnerEnds → Interval → GapRow = λ e s. gap_row (job_at table no) e s in
    let span_is : span ≡ slice_index_or spans no no_finish_span =
    sym (get_or_from_slice_get spans no span no_finish_span
    (slice_get_read spans (length spans) no span refl (omega (arith, is_job, c.requires.spans)) (c.index-spans-place.is ∙ ap (λ n. get_or spans n span) place))) in
    let here : c.row_of.result ≡ row no =
    c.row_of.ensures ∙ ap (λ (a : Job). gap_row a (get_or ends c.from-place.result no_inner_ends) span) c.job.ensures.job
    ∙ ap (λ n. ends_are (get_or ends n no_inner_ends) span) place ∙ ap (ends_are (get_or ends no no_inner_ends)) span_is in
    c.in_ok-push.ensures.items ∙ ap (λ xs. xs ++ c.row_of.result ∷ []) c.loop-no.invariant ∙ ap last here ∙ sym (map-range_with_len_more row 0 no no (omega arith))
