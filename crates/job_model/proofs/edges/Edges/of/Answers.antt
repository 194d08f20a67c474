use Rattle.std.proofs.Common.{◌≡◌, ◌<◌, ◌+◌, ◌++◌, ◌∷◌, [], ap, arith, length, sym, take, ◌∙◌}
use Rattle.std.proofs.lemmas.List.{length-replicate, take_all, take_more}
use Rattle.job_model.proofs.NeighbourLemmas.{AreNeighbours-none, AreNeighbours-push, joined_at, length-put_at}
use Rattle.job_model.proofs.edges.Edges.of.Goals as goal

pub loop-before-init : goal.loop-before-init
loop-before-init c =
    let preds = c.in_ok-preds.ensures in
    let succs = c.in_ok-succs.ensures in
    record {
      pred_count = rw preds (length-replicate c.args.jobs []);
      succ_count = rw succs (length-replicate c.args.jobs []);
      neighbours = rw (preds, succs) (AreNeighbours-none c.args.jobs);
    }

pub put-requires : goal.put-requires
put-requires c =
    let joined = joined_at c.args.jobs c.args.list.items c.deref-before-items.result.now c.loop-before.before-index c.loop-before-item.result c.requires c.deref-before-items.ensures.value (omega arith) c.loop-before-item.is in
    let here : c.loop-before-item.result.1 < length c.loop-before.preds = omega (arith, joined.1) in
    here

pub put-requires-in-loop-before : goal.put-requires-in-loop-before
put-requires-in-loop-before c =
    let joined = joined_at c.args.jobs c.args.list.items c.deref-before-items.result.now c.loop-before.before-index c.loop-before-item.result c.requires c.deref-before-items.ensures.value (omega arith) c.loop-before-item.is in
    let here : c.loop-before-item.result.0 < length c.loop-before.succs = omega (arith, joined.0) in
    here

pub loop-before-preserved : goal.loop-before-preserved
loop-before-preserved c =
    let rows = c.deref-before-items.result.now in
    let i = c.loop-before.before-index in
    let preds = c.in_ok-put.ensures in
    let succs = c.in_ok-put-2.ensures in
    let e = c.loop-before-item.result in
    let below : i < length rows = omega arith in
    let joined = joined_at c.args.jobs c.args.list.items rows i e c.requires c.deref-before-items.ensures.value below c.loop-before-item.is in
    let more : take (i + 1) rows ≡ take i rows ++ e ∷ [] = take_more rows i e below ∙ ap (λ x. take i rows ++ x ∷ []) (sym c.loop-before-item.is) in
    record {
      pred_count = rw preds (length-put_at c.loop-before.preds e.1 e.0 ∙ c.loop-before.invariant.pred_count);
      succ_count = rw succs (length-put_at c.loop-before.succs e.0 e.1 ∙ c.loop-before.invariant.succ_count);
      neighbours = rw (more, preds, succs) (AreNeighbours-push (take i rows) e c.loop-before.preds c.loop-before.succs c.loop-before.invariant.neighbours (omega (arith, joined.1)) (omega (arith, joined.0)));
    }

pub invariant_of-result : goal.invariant_of-result
invariant_of-result c =
    let all : take c.loop-before.before-index c.deref-before-items.result.now ≡ c.args.list.items =
    take_all c.loop-before.before-index c.deref-before-items.result.now (omega arith) ∙ c.deref-before-items.ensures.value in
    rw (← all) c.loop-before.invariant.neighbours
