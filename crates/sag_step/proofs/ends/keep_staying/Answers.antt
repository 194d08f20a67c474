use Rattle.std.proofs.Common.{◌≡◌, ◌∙◌, ◌&&◌, ◌+◌, ◌<◌, ◌∷◌, suc, ℕ, Bool, List, arith, sym, ap, drop, filter, refl}
use Rattle.std.specs.Prelude.{nat_lt}
use Rattle.std.specs.Map.{keys_of}
use Rattle.job_sets.specs.Subset.{Subset, is_member, without}
use Rattle.job_sets.proofs.Filters.{is_left_of, left_of-absent, left_of-passed, left_of-removed, left_of-start}
use Rattle.lists.proofs.Elements.{drop-at}
use Rattle.sag_time.specs.Interval.{Interval}
use Rattle.sag_step.specs.State.{is_tracked}
use Rattle.sag_step.specs.Next.{runs_past}
use Rattle.sag_step.proofs.CutEnds.{item-has, low_end-at, once-listed}
use Rattle.sag_step.proofs.ends.keep_staying.Goals as goal
use Rattle.sag_step.proofs.ends.keep_staying.Goals.{then-has+then-not-stays_last, else-has, else-has-via-then-has+else-not-stays_last, else-has-via-else-has}

pub loop-place-init : goal.loop-place-init
loop-place-init c = record { size = refl; members = sym (left_of-start _ (keys_of c.args.ends.now.items) c.args.into.now.members c.requires.listed) }

pub has-requires : goal.has-requires
has-requires c =
    omega (arith, item-has (λ e. e.0 < c.args.set.now.size) c.args.ends.now.items c.loop-place.place c.at-other.result c.at-other.ensures.item c.requires.jobs, c.loop-place.invariant.size, c.requires.sizes)

pub remove-requires : goal.remove-requires
remove-requires c =
    omega (arith, item-has (λ e. e.0 < c.args.set.now.size) c.args.ends.now.items c.loop-place.place c.at-other.result c.at-other.ensures.item c.requires.jobs, c.loop-place.invariant.size, c.requires.sizes)

pub loop-place-preserved : goal.loop-place-preserved
loop-place-preserved c =
    let es = c.args.ends.now.items in
    let i = c.loop-place.place in
    let e : ℕ × Interval = c.at-other.result in
    let xs = c.args.into.now.members in
    let p : ℕ → Bool = is_tracked c.args.table.now c.args.set.now.members in
    let q : ℕ → Bool = λ k. runs_past es c.args.latest k && p k in
    let rest : List ℕ = keys_of (drop (suc i) es) in
    let next : suc i ≡ i + 1 = omega arith in
    let keys : keys_of (drop i es) ≡ e.0 ∷ rest = ap keys_of (drop-at es i e c.at-other.ensures.item) in
    let is : c.loop-place.into.members ≡ filter (is_left_of q (e.0 ∷ rest)) xs = c.loop-place.invariant.members ∙ ap (λ ks. filter (is_left_of q ks) xs) keys in
    let then = ap (λ n. filter (is_left_of q (keys_of (drop n es))) xs) next in
    let tested : (nat_lt c.args.latest e.1.lo && p e.0) ≡ q e.0 = ap (λ n. nat_lt c.args.latest n && p e.0) (sym (low_end-at es i e c.len-place-end.ensures.ends.rising c.at-other.ensures.item)) in
    elim c.if-has.branch [
      | then-has+then-not-stays_last w ↦ record {
        size = ap (λ (s : Subset). s.size) w.into-is ∙ w.remove.ensures.set.0 ∙ c.loop-place.invariant.size;
        members =
            ap (λ (s : Subset). s.members) w.into-is ∙ w.remove.ensures.set.1 ∙ ap (without e.0) is
            ∙ left_of-removed q xs e.0 rest (once-listed es i e c.len-place-end.ensures.ends.rising c.at-other.ensures.item) (sym tested ∙ sym w.stays_last.ensures ∙ w.if-not-stays_last.true)
            ∙ then;
      }
      | else-has w ↦ record {
        size = ap (λ (s : Subset). s.size) w.into-is ∙ c.loop-place.invariant.size;
        members =
            ap (λ (s : Subset). s.members) w.into-is ∙ is
            ∙ elim w.else-has.branch [
              | else-has-via-then-has+else-not-stays_last v ↦ left_of-passed q xs e.0 rest (sym tested ∙ sym v.stays_last.ensures ∙ v.if-not-stays_last.false)
              | else-has-via-else-has v ↦ left_of-absent q xs e.0 rest (ap (is_member e.0) (sym is) ∙ sym c.has.ensures.member ∙ v.if-has.false)
            ]
            ∙ then;
      }
    ]
