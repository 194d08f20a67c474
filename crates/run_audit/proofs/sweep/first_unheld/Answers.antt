use Rattle.std.proofs.Common.{◌≡◌, false, true, refl, ◌∙◌, arith}
use Rattle.std.proofs.lemmas.Option.{MatchOption-at_some}
use Rattle.run_audit.specs.Orders.{job_in}
use Rattle.run_audit.specs.Waits.{IsLeastEnd}
use Rattle.run_audit.proofs.FirstLemmas.{ends_here, item_job, item_time}
use Rattle.run_audit.proofs.SweepLemmas.{Sweeps-end, turn_idle, turn_more, turn_passed}
use Rattle.run_audit.proofs.sweep.first_unheld.Goals as goal

true≢false : false ≡ true → ⊥
true≢false e = cc

pub returns-in-Some : goal.returns-in-Some
returns-in-Some c =
    let s = c.loop-start in
    let is_free : IsLeastEnd s.ends.items c.unwrap-free.result = rw c.deref.ensures.value at (MatchOption-at_some _ (IsLeastEnd c.deref.result.now) c.unwrap-free.result c.unwrap-free.ensures c.first_free.ensures) in
    turn_idle c.args.entries.now c.args.cores c.args.by_start.now c.args.by_ready.now c.requires.starts c.requires.readies c.requires.after_ready s.start-index s.now s.first s.ends.items s.waiters s.invariant
    c.loop-start-test.true c.unwrap-free.result c.next.result is_free c.next.ensures c.now_or_next-next.result c.now_or_next-next.ensures c.loop-start-item.result.0 c.in-Some.time
    (item_time c.args.by_start.now s.start-index c.loop-start-item.result c.loop-start-test.true c.loop-start-item.is) c.in-Some.ensures

pub is_passed-requires-clause-job : goal.is_passed-requires-clause-job
is_passed-requires-clause-job c =
    let e = item_job c.args.by_start.now c.loop-start.start-index c.loop-start-item.result c.no.inside.0 c.loop-start-test.true c.loop-start-item.is c.no.view_is in
    omega (arith, e, c.requires.starts.is_job c.loop-start.start-index c.loop-start-test.true)

pub returns-then-is_passed : goal.returns-then-is_passed
returns-then-is_passed c =
    let s = c.loop-start in
    let is_free : IsLeastEnd s.ends.items c.unwrap-free.result = rw c.deref.ensures.value at (MatchOption-at_some _ (IsLeastEnd c.deref.result.now) c.unwrap-free.result c.unwrap-free.ensures c.first_free.ensures) in
    turn_passed c.args.entries.now c.args.cores c.args.by_start.now c.args.by_ready.now c.requires.starts c.requires.readies c.requires.after_ready s.start-index s.now s.first s.ends.items s.waiters s.invariant
    c.loop-start-test.true c.unwrap-free.result c.next.result is_free c.next.ensures c.now_or_next-next.result c.now_or_next-next.ensures c.loop-start-item.result.0 c.no.inside.0 c.in_ok-first-2.first
    (item_time c.args.by_start.now s.start-index c.loop-start-item.result c.loop-start-test.true c.loop-start-item.is)
    (item_job c.args.by_start.now s.start-index c.loop-start-item.result c.no.inside.0 c.loop-start-test.true c.loop-start-item.is c.no.view_is)
    c.in_default.ensures c.in_ok-first-2.ensures.first (c.if-is_passed.ensures.0 refl)

pub loop-start-preserved : goal.loop-start-preserved
loop-start-preserved c =
    let s = c.loop-start in
    let is_free : IsLeastEnd s.ends.items c.unwrap-free.result = rw c.deref.ensures.value at (MatchOption-at_some _ (IsLeastEnd c.deref.result.now) c.unwrap-free.result c.unwrap-free.ensures c.first_free.ensures) in
    let own = item_job c.args.by_start.now s.start-index c.loop-start-item.result c.no.inside.0 c.loop-start-test.true c.loop-start-item.is c.no.view_is in
    turn_more c.args.entries.now c.args.cores c.args.by_start.now c.args.by_ready.now c.requires.starts c.requires.readies c.requires.after_ready s.start-index s.now s.first s.ends.items s.waiters s.invariant
    c.loop-start-test.true c.unwrap-free.result c.next.result is_free c.next.ensures c.now_or_next-next.result c.now_or_next-next.ensures c.loop-start-item.result.0 c.no.inside.0 c.in_ok-first-2.first _ c.advance-in-loop-start.new.self
    (item_time c.args.by_start.now s.start-index c.loop-start-item.result c.loop-start-test.true c.loop-start-item.is) own
    c.in_default.ensures c.in_ok-first-2.ensures.stands c.in_ok-first-2.ensures.first (λ passed. true≢false (c.if-is_passed.ensures.1 passed))
    (ends_here c.args.entries.now c.args.by_start.now c.args.cores s.start-index s.ends.items c.from-in-loop-start.result c.from-core.result c.index.result.now c.max.result c.loop-start-test.true
    (c.from-in-loop-start.ensures ∙ own) c.from-core.ensures c.index.ensures c.max.ensures (c.requires.on_cores (job_in c.args.by_start.now s.start-index) (c.requires.starts.is_job s.start-index c.loop-start-test.true)) s.invariant.free)

pub returns : goal.returns
returns c = Sweeps-end c.args.entries.now c.args.cores c.args.by_start.now c.args.by_ready.now c.requires.starts c.requires.readies c.requires.after_ready c.loop-start.start-index c.loop-start.now c.loop-start.first c.loop-start.ends.items c.loop-start.waiters c.loop-start.invariant (omega arith)
