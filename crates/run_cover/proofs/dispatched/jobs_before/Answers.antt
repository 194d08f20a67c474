use Rattle.std.proofs.Common.{◌∙◌, ℕ, Bool, arith, sym}
use Rattle.run_meaning.specs.Order.{starts_earlier}
use Rattle.run_cover.proofs.SeenJobs.{count-no, count-yes}
use Rattle.run_cover.proofs.dispatched.jobs_before.Goals as goal
use Rattle.run_cover.proofs.dispatched.jobs_before.Goals.{then-comes_before, else-comes_before}

pub loop-other-preserved : goal.loop-other-preserved
loop-other-preserved c =
    let p : ℕ → Bool = λ i. starts_earlier c.args.table.now c.args.schedule.now i c.args.job in
    let k = c.loop-other.other in
    elim c.if-comes_before.branch [
      | then-comes_before w ↦ record {
        count = w.count-is ∙ count-yes p k c.loop-other.count c.loop-other.invariant.count (sym c.comes_before.ensures ∙ w.if-comes_before.true);
        fewer = omega (arith, w.count-is, c.loop-other.invariant.fewer);
      }
      | else-comes_before w ↦ record {
        count = w.count-is ∙ count-no p k c.loop-other.count c.loop-other.invariant.count (sym c.comes_before.ensures ∙ w.if-comes_before.false);
        fewer = omega (arith, w.count-is, c.loop-other.invariant.fewer);
      }
    ]
