use Rattle.std.proofs.Common.{◌≡◌, ◌∙◌, ℕ, Bool, arith}
use Rattle.std.specs.Prelude.{nat_le}
use Rattle.std.proofs.lemmas.Bool.{le-leb, lt-leb}
use Rattle.run_cover.specs.Covers.{core_end}
use Rattle.run_cover.proofs.SeenJobs.{count-no, count-yes}
use Rattle.run_cover.proofs.core_times.free_by.Goals as goal
use Rattle.run_cover.proofs.core_times.free_by.Goals.{then-core_end-moment, else-core_end-moment}

pub loop-core-preserved : goal.loop-core-preserved
loop-core-preserved c =
    let end : ℕ → ℕ = core_end c.args.scenario.now c.args.schedule.now c.args.set.now.members in
    let t = c.args.moment in
    let p : ℕ → Bool = λ core. nat_le (end core) t in
    let k = c.loop-core.core in
    let is : c.core_end.result ≡ end k = c.core_end.ensures in
    elim c.if-core_end-moment.branch [
      | then-core_end-moment w ↦ record {
        count = w.count-is ∙ count-yes p k c.loop-core.count c.loop-core.invariant.count (le-leb (end k) t (omega (arith, is, w.if-core_end-moment.true)));
        fewer = omega (arith, w.count-is, c.loop-core.invariant.fewer);
      }
      | else-core_end-moment w ↦ record {
        count = w.count-is ∙ count-no p k c.loop-core.count c.loop-core.invariant.count (lt-leb (end k) t (omega (arith, is, w.if-core_end-moment.false)));
        fewer = omega (arith, w.count-is, c.loop-core.invariant.fewer);
      }
    ]
