use Rattle.std.proofs.Common.{◌≡◌, ◌∙◌, ◌&&◌, ℕ, Bool, refl, sym, ap, filter, cond, false, true, List}
use Rattle.job_sets.specs.Subset.{Subset, is_rising, with_number}
use Rattle.job_sets.proofs.Filters.{filter-both, filter-same, is_rising-filter}
use Rattle.sag_step.specs.State.{is_tracked}
use Rattle.sag_step.specs.Next.{runs_past}
use Rattle.sag_step.proofs.TrackedEnds.{filter-with_number}
use Rattle.sag_step.proofs.ends.keep_last.Goals as goal

-- the jobs that stay, and the new one
staying : (p q : ℕ → Bool) (j : ℕ) (xs : List ℕ) (b : Bool) → is_rising xs ≡ true → p j ≡ b →
    cond b (with_number j (filter (λ i. q i && p i) xs)) (filter (λ i. q i && p i) xs) ≡ filter p (with_number j (filter q xs))
staying p q j xs b rising is =
    (λ k. cond (sym is k) (with_number j (both k)) (both k))
    ∙ sym (filter-with_number p j (filter q xs) (is_rising-filter q xs rising))
  where
    swapped : (a b : Bool) → (a && b) ≡ (b && a)
    swapped true true = refl
    swapped true false = refl
    swapped false true = refl
    swapped false false = refl

    both : filter (λ i. q i && p i) xs ≡ filter p (filter q xs)
    both = filter-same (λ i. q i && p i) (λ i. p i && q i) xs (λ i there. swapped (q i) (p i)) ∙ sym (filter-both p q xs)

pub keep_staying-requires-clause-listed : goal.keep_staying-requires-clause-listed
keep_staying-requires-clause-listed c = rw c.copy_from.ensures c.requires.listed

pub returns-then-is_tracked : goal.returns-then-is_tracked
returns-then-is_tracked c =
    let p : ℕ → Bool = is_tracked c.args.table.now c.args.set.now.members in
    let q : ℕ → Bool = runs_past c.args.ends.now.items c.args.latest in
    let copied : c.copy_from.new.self ≡ c.args.last.now = c.copy_from.ensures in
    let rising = ap (λ (s : Subset). is_rising s.members) (sym copied) ∙ c.size-size.ensures.subset.rising in
    let members = c.add.ensures.set.1 ∙ ap (with_number c.args.job) (c.keep_staying.ensures.members ∙ ap (λ (s : Subset). filter (λ i. q i && p i) s.members) copied)
    ∙ staying p q c.args.job c.args.last.now.members true rising (sym c.is_tracked.ensures ∙ c.if-is_tracked.true) in
    let size = c.add.ensures.set.0 ∙ c.keep_staying.ensures.size ∙ ap (λ (s : Subset). s.size) copied in
    λ i. record { size = size i; members = members i }

pub returns-else-is_tracked : goal.returns-else-is_tracked
returns-else-is_tracked c =
    let p : ℕ → Bool = is_tracked c.args.table.now c.args.set.now.members in
    let q : ℕ → Bool = runs_past c.args.ends.now.items c.args.latest in
    let copied : c.copy_from.new.self ≡ c.args.last.now = c.copy_from.ensures in
    let rising = ap (λ (s : Subset). is_rising s.members) (sym copied) ∙ c.size-size.ensures.subset.rising in
    let members = c.keep_staying.ensures.members ∙ ap (λ (s : Subset). filter (λ i. q i && p i) s.members) copied
    ∙ staying p q c.args.job c.args.last.now.members false rising (sym c.is_tracked.ensures ∙ c.if-is_tracked.false) in
    let size = c.keep_staying.ensures.size ∙ ap (λ (s : Subset). s.size) copied in
    λ i. record { size = size i; members = members i }
