-- Of a schedule there is one first break.
use Rattle.std.proofs.Common.{◌≡◌, ℕ, ◌<◌, ◌≤◌, ◌⊎◌, inl, inr, true, false, List, length, refl, sym, ap, subst, arith, Some, None}
use Rattle.std.proofs.lemmas.Bool.{cases_order}
use Rattle.job_model.specs.Scenario.{Fits}
use Rattle.job_model.specs.Table.{Table, IsTable, has_urgency_over}
use Rattle.run_meaning.proofs.StartsAgree.{cost_positive}
use Rattle.run_meaning.specs.declared.places.Place.{Place}
use Rattle.run_meaning.specs.Ready.{start_of, finish_of}
use Rattle.run_meaning.specs.Legal.{Legal}
use Rattle.run_audit.specs.declared.broken.Rule.{Rule}
use Rattle.run_audit.specs.declared.broken.Rule.TheVariants.{L0, L1, L2, L3}
use Rattle.run_audit.specs.declared.broken.Break.{Break}
use Rattle.run_audit.specs.FirstBreak.{Breaks, HasIdleCore, IsFirstBreak, IsPassedOver, rule_index}
use Rattle.run_audit.specs.Laws.{OneFirstBreak}

one_rule : (a b : Rule) → rule_index a ≡ rule_index b → a ≡ b
one_rule L0 L0 e = refl
one_rule L0 L1 e = absurd (omega (arith, e))
one_rule L0 L2 e = absurd (omega (arith, e))
one_rule L0 L3 e = absurd (omega (arith, e))
one_rule L1 L0 e = absurd (omega (arith, e))
one_rule L1 L1 e = refl
one_rule L1 L2 e = absurd (omega (arith, e))
one_rule L1 L3 e = absurd (omega (arith, e))
one_rule L2 L0 e = absurd (omega (arith, e))
one_rule L2 L1 e = absurd (omega (arith, e))
one_rule L2 L2 e = refl
one_rule L2 L3 e = absurd (omega (arith, e))
one_rule L3 L0 e = absurd (omega (arith, e))
one_rule L3 L1 e = absurd (omega (arith, e))
one_rule L3 L2 e = absurd (omega (arith, e))
one_rule L3 L3 e = refl

module _ (table : Table) (m : ℕ) (scenario : List (ℕ × ℕ)) (schedule : List Place) (is_table : IsTable table) (fits : Fits table scenario) where
  -- a legal schedule breaks no rule
  pub legal_breaks_none : Legal table m scenario schedule → (rule : Rule) (j t : ℕ) → j < length table.jobs → ¬ Breaks table m scenario schedule rule j t
  legal_breaks_none legal L0 j t is_job broken = omega (arith, legal.on_cores j is_job, broken.1)
  legal_breaks_none legal L1 j t is_job broken = omega (arith, legal.after_ready j is_job, broken.1)
  legal_breaks_none legal L2 j t is_job broken = by (legal.apart broken.1.by j broken.1.is_job is_job broken.1.other broken.1.same_core)
    where
      by : (finish_of scenario schedule broken.1.by ≤ start_of schedule j) ⊎ (finish_of scenario schedule j ≤ start_of schedule broken.1.by) → ⊥
      by (inl before) = omega (arith, before, broken.1.running.1)
      by (inr after) = omega (arith, after, broken.1.running.0, cost_positive table scenario is_table fits j is_job)
  legal_breaks_none legal L3 j t is_job broken = by broken.2
    where
      by : HasIdleCore table m scenario schedule t ⊎ IsPassedOver table m scenario schedule j t → ⊥
      by (inl has) = has.idle ((legal.held_back j t is_job broken.0 broken.1).all_busy has.core has.in_range)
      by (inr over) = let urgent : has_urgency_over table over.by j ≡ true = (legal.held_back j t is_job broken.0 broken.1).urgent_first over.by over.is_job over.starts in let not : has_urgency_over table over.by j ≡ false = over.not_urgent in cc

  -- of two breaks neither has the earlier rule
  no_later_rule : (a b : Break) → IsFirstBreak table m scenario schedule a → IsFirstBreak table m scenario schedule b → rule_index b.rule < rule_index a.rule → ⊥
  no_later_rule a b first other less = first.no_earlier_rule b.rule b.job b.time less other.is_job other.there

  same_rule : (a b : Break) → IsFirstBreak table m scenario schedule a → IsFirstBreak table m scenario schedule b → a.rule ≡ b.rule
  same_rule a b first other = by (cases_order (rule_index a.rule) (rule_index b.rule))
    where
      by : (rule_index a.rule ≡ rule_index b.rule) ⊎ ((rule_index a.rule < rule_index b.rule) ⊎ (rule_index b.rule < rule_index a.rule)) → a.rule ≡ b.rule
      by (inl e) = one_rule a.rule b.rule e
      by (inr (inl less)) = absurd (no_later_rule b a other first less)
      by (inr (inr more)) = absurd (no_later_rule a b first other more)

  module _ (a b : Break) (first : IsFirstBreak table m scenario schedule a) (other : IsFirstBreak table m scenario schedule b) where
    there : Breaks table m scenario schedule a.rule b.job b.time
    there = subst (λ (r : Rule). Breaks table m scenario schedule r b.job b.time) (sym (same_rule a b first other)) other.there

    here : Breaks table m scenario schedule b.rule a.job a.time
    here = subst (λ (r : Rule). Breaks table m scenario schedule r a.job a.time) (same_rule a b first other) first.there

    same_time : a.time ≡ b.time
    same_time = omega (arith, first.no_earlier_time b.job b.time other.is_job there, other.no_earlier_time a.job a.time first.is_job here)

    same_job : a.job ≡ b.job
    same_job =
        omega (
          arith,
          first.no_earlier_job b.job other.is_job (subst (λ (t : ℕ). Breaks table m scenario schedule a.rule b.job t) (sym same_time) there),
          other.no_earlier_job a.job first.is_job (subst (λ (t : ℕ). Breaks table m scenario schedule b.rule a.job t) same_time here),
        )

    same_break : ◌≡◌ {A = Break} a b
    same_break = let e = same_rule a b first other in let f = same_time in let g = same_job in built a.rule b.rule a.job b.job a.time b.time e g f
      where
        built : (r s : Rule) (i j t u : ℕ) → r ≡ s → i ≡ j → t ≡ u → ◌≡◌ {A = Break} (record { rule = r; job = i; time = t }) (record { rule = s; job = j; time = u })
        built r s i j t u e f g = cc

pub one_first_break : OneFirstBreak
one_first_break table m scenario schedule None None is_table fits one other = refl
one_first_break table m scenario schedule None (Some b) is_table fits one other = absurd (legal_breaks_none table m scenario schedule is_table fits one b.rule b.job b.time other.is_job other.there)
one_first_break table m scenario schedule (Some a) None is_table fits one other = absurd (legal_breaks_none table m scenario schedule is_table fits other a.rule a.job a.time one.is_job one.there)
one_first_break table m scenario schedule (Some a) (Some b) is_table fits one other = ap (λ (x : Break). Some x) (same_break table m scenario schedule is_table fits a b one other)
