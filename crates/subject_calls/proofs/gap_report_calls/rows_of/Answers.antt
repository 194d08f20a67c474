use Rattle.std.proofs.Common.{◌∙◌, ◌+◌, ap}
use Rattle.gap_report.specs.InnerBounds.{InnerBounds}
use Rattle.subject_calls.proofs.gap_report_calls.rows_of.Goals as goal

pub loop-k-preserved : goal.loop-k-preserved
loop-k-preserved c =
    let adds = c.in_ok-take.ensures.takes.adds in
    record {
      table = ap (λ (b : InnerBounds). b.table) adds ∙ c.loop-k.invariant.table;
      taken = ap (λ (b : InnerBounds). b.taken) adds ∙ ap (λ n. n + 1) c.loop-k.invariant.taken;
    }
