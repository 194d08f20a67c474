use Rattle.std.proofs.Common.{◌≡◌, ◌∙◌, ◌<◌, ◌≤◌, ℕ, arith, length, map, max, refl}
use Rattle.std.specs.Prelude.{nat_lt, slice_index}
use Rattle.std.proofs.lemmas.Bool.{false≢true}
use Rattle.std.proofs.Common.{below_more}
use Rattle.lists.specs.Numbers.{greatest}
use Rattle.run_meaning.specs.Ready.{start_of}
use Rattle.run_cover.specs.Covers.{core_end, cores_where}
use Rattle.run_cover.proofs.core_times.are_possible.Goals as goal

pub returns-then-free_before-x : goal.returns-then-free_before-x
returns-then-free_before-x c =
    let end : ℕ → ℕ = core_end c.args.scenario.now c.args.schedule.now c.args.set.now.members in
    let start : ℕ = greatest (map (start_of c.args.schedule.now) c.args.set.now.members) in
    let low = c.args.low.now in
    let x = c.loop-x.x in
    let is : c.free_before.result ≡ cores_where (length low) (λ core. nat_lt (max (end core) start) (slice_index low x)) =
    c.free_before.ensures ∙ (λ k. cores_where (c.len-cores.ensures.count k) (λ core. nat_lt (max (end core) (c.latest_start-start.ensures.start k)) (c.at.ensures.time k))) in
    let below : x < length low = omega (arith, c.loop-x-test.true, c.len-cores.ensures.count) in
    (λ yes. absurd (false≢true yes), λ all. absurd (omega (arith, all x below, is, c.if-free_before-x.true)))

pub loop-x-preserved : goal.loop-x-preserved
loop-x-preserved c =
    let end : ℕ → ℕ = core_end c.args.scenario.now c.args.schedule.now c.args.set.now.members in
    let start : ℕ = greatest (map (start_of c.args.schedule.now) c.args.set.now.members) in
    let low = c.args.low.now in
    let x = c.loop-x.x in
    let is : c.free_before.result ≡ cores_where (length low) (λ core. nat_lt (max (end core) start) (slice_index low x)) =
    c.free_before.ensures ∙ (λ k. cores_where (c.len-cores.ensures.count k) (λ core. nat_lt (max (end core) (c.latest_start-start.ensures.start k)) (c.at.ensures.time k))) in
    below_more (λ k. cores_where (length low) (λ core. nat_lt (max (end core) start) (slice_index low k)) ≤ k) x c.loop-x.invariant (omega (arith, is, c.if-free_before-x.false))

pub returns : goal.returns
returns c = (λ yes x below. c.loop-x.invariant x (omega (arith, below, c.loop-x-test.false, c.len-cores.ensures.count)), λ all. refl)
