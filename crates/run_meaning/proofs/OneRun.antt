-- Two schedules that are legal for one scenario, with each job on the lowest idle core, are one.
use Rattle.std.proofs.Common.{◌≡◌, ℕ, ◌<◌, ◌⊎◌, inl, inr, true, false, List, length, get_or, sym, ◌∙◌, refl, arith}
use Rattle.std.proofs.lemmas.Bool.{cases_order}
use Rattle.std.proofs.lemmas.List.{ext_get_or, get_or_default}
use Rattle.job_model.specs.Table.{Table, IsTable}
use Rattle.run_meaning.specs.declared.places.Place.{Place}
use Rattle.run_meaning.specs.Ready.{start_of, core_of, no_place}
use Rattle.run_meaning.specs.Order.{dispatch_order, starts_earlier}
use Rattle.run_meaning.specs.Legal.{IsTaken, LowestIdle, TakesLowestIdle}
use Rattle.run_meaning.specs.Laws.{OneRun}
use Rattle.run_meaning.proofs.StartsAgree.{by_lesser, starts_agree}
use Rattle.run_meaning.proofs.Sorted.{dispatch_sorted, earlier_one_way}
use Rattle.run_meaning.proofs.OrderLaws.{length-dispatch_order}
use Rattle.run_meaning.proofs.OrderMembers.{dispatch_contains}

not_both : true ≡ false → ⊥
not_both e = cc

one_place : (a b : Place) → a.start ≡ b.start → a.core ≡ b.core → a ≡ b
one_place a b p q = λ i. record { start = p i; core = q i }

module _ (table : Table) (scenario : List (ℕ × ℕ)) where
  -- each job starts in both at one time
  abbrev HaveOneStart : List Place → List Place → Type 0
  HaveOneStart one other = (j : ℕ) → j < length table.jobs → start_of one j ≡ start_of other j

  -- each job that is dispatched before j is in both on one core
  abbrev HaveOneCoreBefore : List Place → List Place → ℕ → Type 0
  HaveOneCoreBefore one other j = (i : ℕ) → i < length table.jobs → starts_earlier table one i j ≡ true → core_of one i ≡ core_of other i

  earlier_too : (one other : List Place) → HaveOneStart one other → (i j : ℕ) → i < length table.jobs → j < length table.jobs →
      starts_earlier table one i j ≡ starts_earlier table other i j
  earlier_too one other same i j is_one is_job = rw (same i is_one, same j is_job) refl

  -- what is taken in the one is taken in the other
  taken_too : (one other : List Place) → HaveOneStart one other → (j : ℕ) → j < length table.jobs → HaveOneCoreBefore one other j → (core : ℕ) →
      IsTaken table scenario one j core (start_of one j) → IsTaken table scenario other j core (start_of other j)
  taken_too one other same j is_job before core taken = record {
    by = taken.by;
    is_job = taken.is_job;
    earlier = sym (earlier_too one other same taken.by j taken.is_job is_job) ∙ taken.earlier;
    there = sym (before taken.by taken.is_job taken.earlier) ∙ taken.there;
    running = (omega (arith, taken.running.0, same taken.by taken.is_job, same j is_job), omega (arith, taken.running.1, same taken.by taken.is_job, same j is_job));
  }

  not_lower : (one other : List Place) → HaveOneStart one other → (j : ℕ) → j < length table.jobs → HaveOneCoreBefore one other j →
      TakesLowestIdle table scenario one j → TakesLowestIdle table scenario other j → ¬ (core_of other j < core_of one j)
  not_lower one other same j is_job before lowest lowest_too less =
      lowest_too.idle (taken_too one other same j is_job before (core_of other j) (lowest.lowest (core_of other j) less))

  module _ (is_table : IsTable table) (one other : List Place) (same : HaveOneStart one other)
      (lowest : LowestIdle table scenario one) (lowest_too : LowestIdle table scenario other) where
    -- the job at place k of the dispatch order is in both on one core
    abbrev IsOneCoreAt : ℕ → Type 0
    IsOneCoreAt k = (j : ℕ) → j < length table.jobs → k < length (dispatch_order table one) → get_or (dispatch_order table one) k j ≡ j → core_of one j ≡ core_of other j

    -- a job that is dispatched earlier has an earlier place
    place_before : (i j l k : ℕ) → starts_earlier table one i j ≡ true → l < length (dispatch_order table one) → k < length (dispatch_order table one) →
        get_or (dispatch_order table one) l i ≡ i → get_or (dispatch_order table one) k j ≡ j → l < k
    place_before i j l k earlier below_l below_k at_l at_k = by (cases_order l k)
      where
        there : (d : ℕ) → get_or (dispatch_order table one) k d ≡ j
        there d = get_or_default (dispatch_order table one) k d j below_k ∙ at_k

        here : (d : ℕ) → get_or (dispatch_order table one) l d ≡ i
        here d = get_or_default (dispatch_order table one) l d i below_l ∙ at_l

        turned : starts_earlier table one j i ≡ false
        turned = earlier_one_way table one i j earlier

        by : (l ≡ k) ⊎ ((l < k) ⊎ (k < l)) → l < k
        by (inl e) =
            let both : i ≡ j = sym (here 0) ∙ rw e (there 0) in
            let itself : starts_earlier table one j j ≡ true = rw both at earlier in
            let not_itself : starts_earlier table one j j ≡ false = rw both at turned in
            absurd (not_both (sym itself ∙ not_itself))
        by (inr (inl less)) = less
        by (inr (inr more)) =
            let sorted = dispatch_sorted table one is_table k l 0 more (omega (arith, below_l, length-dispatch_order table one)) in
            let other_way : starts_earlier table one j i ≡ true = rw (there 0, here 0) at sorted in
            absurd (not_both (sym other_way ∙ turned))

    one_core_at : (k : ℕ) → IsOneCoreAt k
    one_core_at = by_lesser IsOneCoreAt step
      where
        step : (k : ℕ) → ((l : ℕ) → l < k → IsOneCoreAt l) → IsOneCoreAt k
        step k earlier j is_job below at = by (cases_order (core_of one j) (core_of other j))
          where
            before : HaveOneCoreBefore one other j
            before i is_one first =
                let (l, below_l, at_l) = dispatch_contains table one i is_one in
                earlier l (place_before i j l k first below_l below at_l at) i is_one below_l at_l

            same_too : HaveOneStart other one
            same_too i is_one = sym (same i is_one)

            before_too : HaveOneCoreBefore other one j
            before_too i is_one first = sym (before i is_one (earlier_too one other same i j is_one is_job ∙ first))

            by : (core_of one j ≡ core_of other j) ⊎ ((core_of one j < core_of other j) ⊎ (core_of other j < core_of one j)) → core_of one j ≡ core_of other j
            by (inl e) = e
            by (inr (inl less)) = absurd (not_lower other one same_too j is_job before_too (lowest_too j is_job) (lowest j is_job) less)
            by (inr (inr more)) = absurd (not_lower one other same j is_job before (lowest j is_job) (lowest_too j is_job) more)

    one_core : (j : ℕ) → j < length table.jobs → core_of one j ≡ core_of other j
    one_core j is_job =
        let (k, below, at) = dispatch_contains table one j is_job in
        one_core_at k j is_job below at

pub one_run : OneRun
one_run table m scenario one other is_table fits legal legal_too lowest lowest_too =
    ext_get_or no_place one other (legal.one_each ∙ sym legal_too.one_each) (λ j below.
    let is_job : j < length table.jobs = omega (arith, below, legal.one_each) in
    one_place (get_or one j no_place) (get_or other j no_place) (same j is_job) (one_core table scenario is_table one other same lowest lowest_too j is_job))
  where
    same : HaveOneStart table scenario one other
    same j is_job = starts_agree table m scenario one other is_table fits legal legal_too j is_job
