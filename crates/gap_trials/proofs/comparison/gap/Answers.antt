use Rattle.std.proofs.Common.{◌≡◌, ◌+◌, Global, Vec, arith, subst, sym}
use Rattle.std.proofs.lemmas.Result.{IfOk-weaker}
use Rattle.gap_report.specs.GapRows.{gap_rows}
use Rattle.gap_report.specs.Trials.{last_trial}
use Rattle.gap_report.specs.declared.gap_row.GapRow.{GapRow}
use Rattle.gap_trials.specs.GapMeaning.{AreGapRows}
use Rattle.gap_trials.specs.Steps.{AreSpans, HasTaken}
use Rattle.gap_trials.proofs.TakenTrials.{none_taken, one_more, rows_of_all}
use Rattle.gap_trials.proofs.comparison.gap.Goals as goal

pub loop-k-init : goal.loop-k-init
loop-k-init c = none_taken c.args.table.now c.args.cores c.new-gap.result c.new-gap.ensures

pub loop-k-preserved : goal.loop-k-preserved
loop-k-preserved c =
    one_more c.takes_keep_ends.ensures c.args.table.now c.args.cores c.loop-k.k c.loop-k.gap c.take.new.self c.in_ok-scenario.scenario c.loop-k.invariant
    c.in_ok-scenario.ensures.trial c.in_ok-take.ensures.takes

pub returns : goal.returns
returns c =
    let table = c.args.table.now in
    let gap = c.loop-k.gap in
    let spans : AreSpans table c.args.cores c.deref.result.now = subst (AreSpans table c.args.cores) (sym c.deref.ensures.value) c.in_ok-spans.ensures in
    let all : c.loop-k.k ≡ last_trial table + 1 = omega (arith, c.loop-k-test.false, c.loop-k.auto.k-end, c.last_trial-k-end.ensures) in
    let taken : HasTaken table c.args.cores (last_trial table + 1) gap = subst (λ k. HasTaken table c.args.cores k gap) all c.loop-k.invariant in
    let rows = rows_of_all table c.args.cores gap c.deref.result.now spans taken in
    IfOk-weaker c.rows.result (λ (told : Vec GapRow Global). told.items ≡ gap_rows gap.table gap.ends c.deref.result.now) (λ (told : Vec GapRow Global). AreGapRows table c.args.cores told.items)
    (λ told is. subst (AreGapRows table c.args.cores) (sym is) rows) c.rows.ensures
