use Rattle.std.proofs.Common.{◌≡◌, ◌∙◌, ℕ, Bool, arith, max, rules}
use Rattle.std.specs.Prelude.{nat_lt}
use Rattle.std.proofs.lemmas.Bool.{le-ltb, lt-ltb}
use Rattle.run_cover.specs.Covers.{core_end}
use Rattle.run_cover.proofs.SeenJobs.{count-no, count-yes}
use Rattle.run_cover.proofs.core_times.free_before.Goals as goal
use Rattle.run_cover.proofs.core_times.free_before.Goals.{then-max-moment, else-max-moment}

pub loop-core-preserved : goal.loop-core-preserved
loop-core-preserved c =
    let end : ℕ → ℕ = core_end c.args.scenario.now c.args.schedule.now c.args.set.now.members in
    let t = c.args.moment in
    let s = c.args.start in
    let p : ℕ → Bool = λ core. nat_lt (max (end core) s) t in
    let k = c.loop-core.core in
    let greater : c.max.result ≡ max c.core_end.result s = search rules in
    let is : c.max.result ≡ max (end k) s = greater ∙ (λ i. max (c.core_end.ensures i) s) in
    elim c.if-max-moment.branch [
      | then-max-moment w ↦ record {
        count = w.count-is ∙ count-yes p k c.loop-core.count c.loop-core.invariant.count (lt-ltb (max (end k) s) t (omega (arith, is, w.if-max-moment.true)));
        fewer = omega (arith, w.count-is, c.loop-core.invariant.fewer);
      }
      | else-max-moment w ↦ record {
        count = w.count-is ∙ count-no p k c.loop-core.count c.loop-core.invariant.count (le-ltb (max (end k) s) t (omega (arith, is, w.if-max-moment.false)));
        fewer = omega (arith, w.count-is, c.loop-core.invariant.fewer);
      }
    ]
