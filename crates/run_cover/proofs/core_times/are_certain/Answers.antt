use Rattle.std.proofs.Common.{◌≡◌, ◌∙◌, ◌<◌, ℕ, arith, length, refl}
use Rattle.std.specs.Prelude.{nat_le, slice_index}
use Rattle.std.proofs.lemmas.Bool.{false≢true}
use Rattle.std.proofs.Common.{below_more}
use Rattle.run_cover.specs.Covers.{core_end, cores_where}
use Rattle.run_cover.proofs.core_times.are_certain.Goals as goal

pub returns-then-free_by-x : goal.returns-then-free_by-x
returns-then-free_by-x c =
    let end : ℕ → ℕ = core_end c.args.scenario.now c.args.schedule.now c.args.set.now.members in
    let high = c.args.high.now in
    let x = c.loop-x.x in
    let is : c.free_by.result ≡ cores_where (length high) (λ core. nat_le (end core) (slice_index high x)) =
    c.free_by.ensures ∙ (λ k. cores_where (c.len-cores.ensures.count k) (λ core. nat_le (end core) (c.at.ensures.time k))) in
    let below : x < length high = omega (arith, c.loop-x-test.true, c.len-cores.ensures.count) in
    (λ yes. absurd (false≢true yes), λ all. absurd (omega (arith, all x below, is, c.if-free_by-x.true)))

pub loop-x-preserved : goal.loop-x-preserved
loop-x-preserved c =
    let end : ℕ → ℕ = core_end c.args.scenario.now c.args.schedule.now c.args.set.now.members in
    let high = c.args.high.now in
    let x = c.loop-x.x in
    let is : c.free_by.result ≡ cores_where (length high) (λ core. nat_le (end core) (slice_index high x)) =
    c.free_by.ensures ∙ (λ k. cores_where (c.len-cores.ensures.count k) (λ core. nat_le (end core) (c.at.ensures.time k))) in
    below_more (λ k. k < cores_where (length high) (λ core. nat_le (end core) (slice_index high k))) x c.loop-x.invariant (omega (arith, is, c.if-free_by-x.false))

pub returns : goal.returns
returns c = (λ yes x below. c.loop-x.invariant x (omega (arith, below, c.loop-x-test.false, c.len-cores.ensures.count)), λ all. refl)
