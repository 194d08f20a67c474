use Rattle.std.proofs.Common.{◌≡◌, ◌++◌, ◌∷◌, ◌<◌, [], ◌∙◌, ℕ, List, ap, arith, length, map, sym}
use Rattle.std.specs.Prelude.{Option, slice_get}
use Rattle.std.specs.List.{range_with_len}
use Rattle.std.proofs.lemmas.List.FromFn.{map-range_with_len_more}
use Rattle.run_meaning.specs.Ready.{finish_of}
use Rattle.gap_report.specs.InnerBounds.{ends_after}
use Rattle.gap_report.specs.declared.inner_ends.InnerEnds.{InnerEnds}
use Rattle.gap_report.proofs.gap.ends_by_run.Goals as goal

pub finish_at-finish-requires-clause-fits : goal.finish_at-finish-requires-clause-fits
finish_at-finish-requires-clause-fits c =
    let is_job : c.loop-j.j < length c.args.table.now.jobs = omega (arith, c.loop-j-test.true, c.len-count.ensures.count) in
    omega (arith, c.runs_end.ensures c.args.table.now c.requires.legal.0 c.args.scenario.now c.args.schedule.now c.len-count.ensures.table c.requires.fits c.requires.legal.1 c.loop-j.j is_job)

pub loop-j-preserved : goal.loop-j-preserved
loop-j-preserved c =
    let a = c.args in
    let j = c.loop-j.j in
    let after : ℕ → InnerEnds = λ j. ends_after a.place (finish_of a.scenario.now a.schedule.now j) (slice_get a.ends.now j) in
    let last : InnerEnds → List InnerEnds = λ r. map after (range_with_len 0 j) ++ r ∷ [] in
    let here : c.ends_after.result ≡ after j =
    c.ends_after.ensures ∙ ap (λ t. ends_after a.place t c.ends_before.result) c.finish_at-finish.ensures
    ∙ ap (λ (o : Option InnerEnds). ends_after a.place (finish_of a.scenario.now a.schedule.now j) o) c.ends_before.ensures in
    c.in_ok-push.ensures.items ∙ ap (λ xs. xs ++ c.ends_after.result ∷ []) c.loop-j.invariant ∙ ap last here ∙ sym (map-range_with_len_more after 0 j j (omega arith))
