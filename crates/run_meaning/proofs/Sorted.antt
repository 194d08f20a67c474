-- The dispatch order is in order, and has each job once.
use Rattle.std.proofs.Common.{◌≡◌, ◌≢◌, ℕ, zero, suc, ◌+◌, ◌<◌, ◌≤◌, ◌⊎◌, inl, inr, Bool, true, false, cond, List, [], ◌∷◌, length, get_or, refl, sym, ap, ◌∙◌, arith}
use Rattle.std.specs.Prelude.{nat_lt}
use Rattle.std.specs.List.{AllByRecursion, range_with_len}
use Rattle.std.specs.declared.cmp.Ordering.{Ordering}
use Rattle.std.specs.declared.cmp.Ordering.TheVariants.{Less, Equal, Greater}
use Rattle.std.specs.Ordering.{ordering_reverse, ordering_then, nat_cmp, is_lt, on}
use Rattle.std.proofs.lemmas.Bool.{cases_order, cond-true, lt-ltb}
use Rattle.std.proofs.lemmas.List.Elements.{All-contains}
use Rattle.lists.specs.Numbers.{numbers_below}
use Rattle.job_model.specs.Urgency.{urgency_cmp}
use Rattle.job_model.specs.Table.{Table, IsTable, HaveOneId, job_at, no_job, predecessors}
use Rattle.job_model.specs.Scenario.{cost_of}
use Rattle.job_model.proofs.UrgencyLaws.{urgency_tie}
use Rattle.run_meaning.specs.declared.places.Place.{Place}
use Rattle.run_meaning.specs.Ready.{start_of, finish_of, ready_time}
use Rattle.run_meaning.specs.Order.{dispatch_cmp, dispatch_order, starts_earlier}
use Rattle.run_meaning.specs.Laws.{PredecessorsComeEarlier}
use Rattle.run_meaning.proofs.OrderLaws.{dispatch_total, length-dispatch_order}
use Rattle.run_meaning.proofs.StartsAgree.{cost_positive, predecessors_below, finished_by_ready}
use Rattle.lists.proofs.SortedBy.{InOrder, all-sorted_by, all_range, order-sorted_by, order_at, ranked_range}
use Rattle.lists.proofs.Orderings.{is_Less}

second_equal : (o p : Ordering) → ordering_then o p ≡ Equal → p ≡ Equal
second_equal Less p e = cc
second_equal Equal p e = e
second_equal Greater p e = cc

nat_cmp-less : (x y : ℕ) → x < y → nat_cmp x y ≡ Less
nat_cmp-less x y less = cond-true (nat_lt x y) Less _ (lt-ltb x y less)

module _ (table : Table) (schedule : List Place) where
  pub earlier-trans : (i j k : ℕ) → starts_earlier table schedule i j ≡ true → starts_earlier table schedule j k ≡ true → starts_earlier table schedule i k ≡ true
  earlier-trans i j k p q = ap is_lt ((dispatch_total table schedule).trans i j k (is_Less _ p) (is_Less _ q))

  pub earlier-start : (i j : ℕ) → start_of schedule i < start_of schedule j → starts_earlier table schedule i j ≡ true
  earlier-start i j less =
      ap (λ o. is_lt (ordering_then o (on (job_at table) urgency_cmp i j))) (nat_cmp-less (start_of schedule i) (start_of schedule j) less)

  pub earlier_one_way : (i j : ℕ) → starts_earlier table schedule i j ≡ true → starts_earlier table schedule j i ≡ false
  earlier_one_way i j p = ap is_lt ((dispatch_total table schedule).antisymm j i ∙ ap ordering_reverse (is_Less _ p))

  module _ (is_table : IsTable table) where
    pub ids_differ : (i j : ℕ) → i < length table.jobs → j < length table.jobs → i ≢ j → ¬ HaveOneId (job_at table i) (job_at table j)
    ids_differ i j below_i below_j differ = by (cases_order i j)
      where
        by : (i ≡ j) ⊎ ((i < j) ⊎ (j < i)) → ¬ HaveOneId (job_at table i) (job_at table j)
        by (inl e) = absurd (differ e)
        by (inr (inl less)) = is_table.ids_differ i j no_job less below_j
        by (inr (inr more)) = λ same. is_table.ids_differ j i no_job more below_i (sym same.0, sym same.1)

    -- of each two jobs one is dispatched before the other
    pub one_earlier : (i j : ℕ) → i < length table.jobs → j < length table.jobs → i ≢ j → (starts_earlier table schedule i j ≡ true) ⊎ (starts_earlier table schedule j i ≡ true)
    one_earlier i j below_i below_j differ = by (dispatch_cmp table schedule i j) refl
      where
        by : (o : Ordering) → dispatch_cmp table schedule i j ≡ o → (starts_earlier table schedule i j ≡ true) ⊎ (starts_earlier table schedule j i ≡ true)
        by Less e = inl (ap is_lt e)
        by Equal e = absurd (ids_differ i j below_i below_j differ (urgency_tie (job_at table i) (job_at table j) (second_equal (nat_cmp (start_of schedule i) (start_of schedule j)) _ e)))
        by Greater e = inr (ap is_lt ((dispatch_total table schedule).antisymm j i ∙ ap ordering_reverse e))

    pub in_order : InOrder (starts_earlier table schedule) (dispatch_order table schedule)
    in_order = order-sorted_by (starts_earlier table schedule) earlier-trans (numbers_below (length table.jobs))
        (ranked_range (starts_earlier table schedule) 0 (length table.jobs) (λ x y from less below. one_earlier x y (omega (arith, less, below)) (omega (arith, below)) (λ e. omega (arith, less, e))))

    -- the job at a place is dispatched before those at later places
    pub dispatch_sorted : (i k d : ℕ) → i < k → k < length table.jobs →
        starts_earlier table schedule (get_or (dispatch_order table schedule) i d) (get_or (dispatch_order table schedule) k d) ≡ true
    dispatch_sorted i k d less below =
        order_at (starts_earlier table schedule) (dispatch_order table schedule) i k d in_order less (omega (arith, below, length-dispatch_order table schedule))

  -- each number of the order is a job
  pub dispatch_below : AllByRecursion (λ j. j < length table.jobs) (dispatch_order table schedule)
  dispatch_below = all-sorted_by (starts_earlier table schedule) (λ j. j < length table.jobs) (numbers_below (length table.jobs))
      (all_range (λ j. j < length table.jobs) 0 (length table.jobs) (λ x from below. omega (arith, below)))

pub predecessors_come_earlier : PredecessorsComeEarlier
predecessors_come_earlier table m scenario schedule is_table fits legal i j is_job there =
    let is_one : i < length table.jobs = All-contains (λ x. x < length table.jobs) (predecessors table j) i (predecessors_below table scenario is_table fits j) there in
    let costs : 1 ≤ cost_of scenario i = cost_positive table scenario is_table fits i is_one in
    let finished : finish_of scenario schedule (get_or (predecessors table j) there.0 i) ≤ ready_time table scenario schedule j = finished_by_ready table scenario is_table fits schedule j there.0 i there.1 in
    let same : finish_of scenario schedule (get_or (predecessors table j) there.0 i) ≡ finish_of scenario schedule i = ap (finish_of scenario schedule) there.2 in
    earlier-start table schedule i j (omega (arith, costs, finished, same, legal.after_ready j is_job))
