use Rattle.std.proofs.Common.{◌≡◌, ◌∙◌, ◌+◌, ◌++◌, ◌<◌, ◌≤◌, ◌∷◌, [], ℕ, List, All, arith, ap, get_or, length, map, refl, subst, sym, take}
use Rattle.std.proofs.lemmas.List.{take_more}
use Rattle.job_model.specs.Table.{predecessors}
use Rattle.job_sets.specs.Subset.{is_member}
use Rattle.job_sets.proofs.Members.{is_member-at}
use Rattle.sag_time.specs.Interval.{Interval}
use Rattle.start_windows.specs.Ends.{HeldEnds}
use Rattle.sag_step.specs.Next.{ended_by}
use Rattle.sag_step.proofs.CutEnds.{begun-predecessor, ended-more, ended-start}
use Rattle.sag_step.proofs.ends.end_predecessors.Goals as goal

pub loop-before-init : goal.loop-before-init
loop-before-init c = record { items = ended-start c.args.latest c.args.ends.now.items; room = refl }

pub end_by-requires : goal.end_by-requires
end_by-requires c =
    let preds = predecessors c.args.table.now c.args.job in
    let i = c.loop-before.before-index in
    let p = c.before-item.result in
    let items = c.preds-before-items.ensures.preds in
    let below : i < length preds = omega (arith, c.loop-before-test.true, ap length items) in
    let is : p ≡ get_or preds i p = c.before-item.is ∙ ap (λ xs. get_or xs i p) items in
    let there = ap (λ n. is_member n preds) is ∙ is_member-at preds i p below in
    let begun = begun-predecessor c.args.table.now c.args.job p c.args.latest (take i preds) c.args.ends.now.items there c.requires.begun in
    record { begun = subst (λ (es : List (ℕ × Interval)). All (λ e. e.0 ≡ p → e.1.lo ≤ c.args.latest) es) (sym c.loop-before.invariant.items) begun }

pub loop-before-preserved : goal.loop-before-preserved
loop-before-preserved c =
    let preds = predecessors c.args.table.now c.args.job in
    let i = c.loop-before.before-index in
    let p = c.before-item.result in
    let items = c.preds-before-items.ensures.preds in
    let below : i < length preds = omega (arith, c.loop-before-test.true, ap length items) in
    let is : p ≡ get_or preds i p = c.before-item.is ∙ ap (λ xs. get_or xs i p) items in
    let more : take (i + 1) preds ≡ take i preds ++ p ∷ [] = take_more preds i p below ∙ ap (λ n. take i preds ++ n ∷ []) (sym is) in
    record {
      items =
          ap (λ (h : HeldEnds). h.items) c.end_by.ensures
          ∙ ap (map (ended_by (p ∷ []) c.args.latest)) c.loop-before.invariant.items
          ∙ ended-more (take i preds) p c.args.latest c.args.ends.now.items
          ∙ ap (λ ps. map (ended_by ps c.args.latest) c.args.ends.now.items) (sym more);
      room = ap (λ (h : HeldEnds). h.room) c.end_by.ensures ∙ c.loop-before.invariant.room;
    }
