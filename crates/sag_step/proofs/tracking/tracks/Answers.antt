use Rattle.std.proofs.Common.{◌∙◌, ◌≤◌, ◌<◌, ◌+◌, ap, sym, arith, length, subst, drop}
use Rattle.std.specs.Prelude.{nat_eq}
use Rattle.std.specs.Map.{keys_of}
use Rattle.std.specs.Cmp.Lexicographic.{pointwise}
use Rattle.std.proofs.lemmas.Bool.{false≢true}
use Rattle.sag_step.specs.State.{tracked_jobs}
use Rattle.sag_step.proofs.ListsOfEnds.{tracked_from, tracked_from_zero, listed, unlisted, untracked}
use Rattle.sag_step.proofs.tracking.tracks.Goals as goal
use Rattle.sag_step.proofs.tracking.tracks.Goals.{then-is_tracked_member+else-not-lists_at, else-is_tracked_member}

pub loop-job-init : goal.loop-job-init
loop-job-init c = record {
  within = omega arith;
  no_more = omega arith;
  left = ap (pointwise nat_eq (keys_of c.args.ends.now.items)) (tracked_from_zero c.args.table.now c.args.set.now c.size-job-end.ensures.subset);
}

pub returns-then-not-lists_at-clause-tracked : goal.returns-then-not-lists_at-clause-tracked
returns-then-not-lists_at-clause-tracked c =
    let below : c.loop-job.job < c.args.set.now.size = omega (arith, c.loop-job-test.true, c.size-job-end.ensures.size) in
    sym (c.loop-job.invariant.left
    ∙ unlisted c.args.table.now c.args.set.now.members c.args.ends.now.items c.loop-job.place c.loop-job.job c.args.set.now.size below
    (sym (c.is_tracked_member.ensures) ∙ c.if-is_tracked_member.true)
    (λ here. false≢true (sym c.if-not-lists_at.true ∙ c.lists_at.ensures.1 here)))

pub loop-job-preserved : goal.loop-job-preserved
loop-job-preserved c =
    let t = c.args.table.now in
    let s = c.args.set.now.members in
    let es = c.args.ends.now.items in
    let n = c.args.set.now.size in
    let j = c.loop-job.job in
    let i = c.loop-job.place in
    let below : j < n = omega (arith, c.loop-job-test.true, c.size-job-end.ensures.size) in
    let whole = pointwise nat_eq (keys_of es) (tracked_jobs t s) in
    elim c.if-is_tracked_member.branch [
      | then-is_tracked_member+else-not-lists_at w ↦
          let found = listed t s es i j n below (sym c.is_tracked_member.ensures ∙ w.if-is_tracked_member.true) (w.lists_at.ensures.0 w.if-not-lists_at.false) in
          record {
            within = subst (λ k. k ≤ length es) (sym w.place-is) found.0;
            no_more = omega (arith, w.place-is, c.loop-job.invariant.no_more);
            left = c.loop-job.invariant.left ∙ found.1 ∙ ap (λ k. pointwise nat_eq (keys_of (drop k es)) (tracked_from t s (j + 1) n)) (sym w.place-is);
          }
      | else-is_tracked_member w ↦
          let same = untracked t s es i j n below (sym c.is_tracked_member.ensures ∙ w.if-is_tracked_member.false) in
          record {
            within = subst (λ k. k ≤ length es) (sym w.place-is) c.loop-job.invariant.within;
            no_more = omega (arith, w.place-is, c.loop-job.invariant.no_more);
            left = c.loop-job.invariant.left ∙ same ∙ ap (λ k. pointwise nat_eq (keys_of (drop k es)) (tracked_from t s (j + 1) n)) (sym w.place-is);
          }
    ]
