-- Urgency orders the jobs: no job is more urgent than itself, and of two jobs of different IDs one is.
use Rattle.std.proofs.Common.{◌≡◌, true, false, ◌⊎◌, inl, inr, refl, ap, ◌∙◌}
use Rattle.std.specs.declared.cmp.Ordering.{Ordering}
use Rattle.std.specs.declared.cmp.Ordering.TheVariants.{Less, Equal, Greater}
use Rattle.std.specs.Ordering.{ordering_reverse, ordering_then, nat_cmp, is_lt}
use Rattle.std.proofs.lemmas.Cmp.{tied_itself}
use Rattle.job_model.specs.declared.job_row.Job.{Job}
use Rattle.job_model.specs.Urgency.{urgency_cmp, is_more_urgent, urgency_total}
use Rattle.job_model.specs.Table.{HaveOneId}
use Rattle.lists.proofs.Orderings.{is_Less}
use Rattle.lists.proofs.Orderings.{numbers_tie}

pub urgent_itself : (a : Job) → is_more_urgent a a ≡ false
urgent_itself a = ap is_lt (tied_itself urgency_total a)

pub urgent-trans : (a b c : Job) → is_more_urgent a b ≡ true → is_more_urgent b c ≡ true → is_more_urgent a c ≡ true
urgent-trans a b c p q = ap is_lt (urgency_total.trans a b c (is_Less _ p) (is_Less _ q))

pub urgent_one_way : (a b : Job) → is_more_urgent a b ≡ true → is_more_urgent b a ≡ false
urgent_one_way a b p = ap is_lt (urgency_total.antisymm b a ∙ ap ordering_reverse (is_Less _ p))

-- a tie by two orders is a tie by each
pub both_equal : (o p : Ordering) → ordering_then o p ≡ Equal → (o ≡ Equal) × (p ≡ Equal)
both_equal Less p e = cc
both_equal Equal p e = (refl, e)
both_equal Greater p e = cc

-- two jobs of one urgency are one
pub urgency_tie : (a b : Job) → urgency_cmp a b ≡ Equal → HaveOneId a b
urgency_tie a b e =
    let ids : ordering_then (nat_cmp a.task b.task) (nat_cmp a.job b.job) ≡ Equal = (both_equal (nat_cmp a.priority b.priority) _ e).1 in
    let parts : (nat_cmp a.task b.task ≡ Equal) × (nat_cmp a.job b.job ≡ Equal) = both_equal (nat_cmp a.task b.task) (nat_cmp a.job b.job) ids in
    (numbers_tie a.task b.task parts.0, numbers_tie a.job b.job parts.1)

one_first : (a b : Job) (o : Ordering) → urgency_cmp a b ≡ o → ¬ HaveOneId a b → (is_more_urgent a b ≡ true) ⊎ (is_more_urgent b a ≡ true)
one_first a b Less e differ = inl (ap is_lt e)
one_first a b Equal e differ = absurd (differ (urgency_tie a b e))
one_first a b Greater e differ = inr (ap is_lt (urgency_total.antisymm b a ∙ ap ordering_reverse e))

-- of two jobs of different IDs one is the more urgent
pub urgent_or_urgent : (a b : Job) → ¬ HaveOneId a b → (is_more_urgent a b ≡ true) ⊎ (is_more_urgent b a ≡ true)
urgent_or_urgent a b differ = one_first a b (urgency_cmp a b) refl differ
