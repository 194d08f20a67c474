use Rattle.std.proofs.Common.{◌≡◌, ◌+◌, ◌<◌, List, [], ◌∷◌, ◌++◌, length, heap_items, sym, ap, subst, arith}
use Rattle.job_model.specs.Table.{predecessors}
use Rattle.replay.specs.declared.queues.Readiness.{Readiness}
use Rattle.replay.proofs.First.{HasFirst, HasFirst-push, HasFirst-skip, HasAll-first}
use Rattle.replay.proofs.queues.Queues.new.Goals as goal
use Rattle.replay.proofs.queues.Queues.new.Goals.{then-missing-eq0+in_ok-push-2, else-missing-eq0}

pub loop-no-preserved : goal.loop-no-preserved
loop-no-preserved c =
    let table = c.args.table.now in
    let n = c.loop-no.no in
    let later = heap_items c.loop-no.later in
    let lacks = length c.preds-missing.result.now in
    let is_job : n < length table.jobs = omega (arith, c.loop-no-test.true, c.len-no-end.ensures.count) in
    let all : lacks ≡ length (predecessors table n) = ap length c.preds-missing.ensures.preds in
    let readiness : List Readiness = c.loop-no.readiness.items ++ record { missing = lacks; time = c.release-time.result } ∷ [] in
    subst (λ xs. HasFirst table c.args.scenario.now (heap_items c.if-missing-eq0.later) xs (n + 1)) (sym c.in_ok-push.ensures.items)
    (elim c.if-missing-eq0.branch [
      | then-missing-eq0+in_ok-push-2 w ↦ subst (λ heap. HasFirst table c.args.scenario.now (heap_items heap) readiness (n + 1)) (sym w.later-is)
          (HasFirst-push table c.args.scenario.now later c.loop-no.readiness.items n c.loop-no.invariant lacks c.release-time.result is_job all c.release-time.ensures
          w.if-missing-eq0.true (heap_items w.push-then-missing-eq0.new.self) w.in_ok-push-2.ensures.heap_order w.in_ok-push-2.ensures.permutation)
      | else-missing-eq0 w ↦ subst (λ heap. HasFirst table c.args.scenario.now (heap_items heap) readiness (n + 1)) (sym w.later-is)
          (HasFirst-skip table c.args.scenario.now later c.loop-no.readiness.items n c.loop-no.invariant lacks c.release-time.result is_job all c.release-time.ensures
          (omega (arith, w.if-missing-eq0.false)))
    ])

pub returns : goal.returns
returns c =
    HasAll-first c.args.table.now c.args.scenario.now (heap_items c.in_ok-waiting.waiting) (heap_items c.loop-no.later) c.loop-no.readiness.items c.loop-no.no
    c.in_ok-waiting.ensures.items c.loop-no.invariant (omega (arith, c.loop-no-test.false, c.loop-no.auto.no-end, c.len-no-end.ensures.count))
