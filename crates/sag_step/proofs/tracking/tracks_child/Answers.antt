use Rattle.std.proofs.Common.{◌∙◌, ℕ, List, true, false, filter, ap, sym}
use Rattle.std.specs.Prelude.{nat_eq}
use Rattle.std.specs.Map.{keys_of}
use Rattle.std.specs.Cmp.Lexicographic.{pointwise}
use Rattle.std.proofs.lemmas.Bool.{false≢true, false_from_ne_true}
use Rattle.job_sets.specs.Subset.{is_member, with_number}
use Rattle.job_sets.proofs.Members.{is_member-from_filter}
use Rattle.sag_step.specs.State.{is_tracked, tracked_jobs}
use Rattle.sag_step.proofs.TrackedEnds.{tracked_after}
use Rattle.sag_step.proofs.tracking.tracks_child.Goals as goal

pub tracks_next-requires-clause-new : goal.tracks_next-requires-clause-new
tracks_next-requires-clause-new c = false_from_ne_true _ (λ there. false≢true (sym c.requires.new
    ∙ (is_member-from_filter (is_tracked c.args.table.now c.args.before.now.members) c.args.before.now.members c.args.job (ap (is_member c.args.job) (sym c.requires.tracked) ∙ there)).1))

pub returns-clause-tracked : goal.returns-clause-tracked
returns-clause-tracked c =
    let table = c.args.table.now in
    let before = c.args.before.now.members in
    let keys : List ℕ = keys_of c.args.ends.now.items in
    c.tracks_next.ensures
    ∙ ap (λ ks. pointwise nat_eq keys (filter (is_tracked table c.args.set.now.members) (with_number c.args.job ks))) c.requires.tracked
    ∙ ap (λ s. pointwise nat_eq keys (filter (is_tracked table s) (with_number c.args.job (tracked_jobs table before)))) c.requires.set
    ∙ ap (pointwise nat_eq keys) (tracked_after table before c.args.job c.size-before.ensures.subset.rising)
    ∙ sym (ap (λ s. pointwise nat_eq keys (tracked_jobs table s)) c.requires.set)
