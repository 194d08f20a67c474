-- The job at a place of the dispatch order of a legal run is the next after those before it.
use Rattle.std.proofs.Common.{◌≡◌, ◌≢◌, ℕ, ◌<◌, ◌≤◌, true, false, List, length, take, get_or, ap, arith, inl, inr, ⊎_elim, ◌⊎◌, sym, ◌∙◌, subst, Contains}
use Rattle.std.specs.Prelude.{slice_index}
use Rattle.std.specs.Ordering.{ordering_then, nat_cmp, is_lt}
use Rattle.std.specs.Cmp.{nat_cmp_total}
use Rattle.std.proofs.lemmas.Cmp.{tied_itself}
use Rattle.std.proofs.lemmas.Bool.{cases_Bool, cases_order, cases_lt, false≢true, false_from_ne_true}
use Rattle.std.proofs.lemmas.List.{get_or-take, length-take, get_or_default}
use Rattle.std.proofs.lemmas.List.Elements.{All-contains}
use Rattle.job_sets.specs.Subset.{is_member}
use Rattle.job_sets.proofs.Members.{is_member-at, Contains-from_member}
use Rattle.job_model.specs.Urgency.{urgency_cmp}
use Rattle.job_model.specs.Table.{Table, job_at, predecessors, has_urgency_over}
use Rattle.run_meaning.specs.declared.places.Place.{Place}
use Rattle.run_meaning.specs.Ready.{start_of}
use Rattle.run_meaning.specs.Order.{dispatch_order, starts_earlier}
use Rattle.run_meaning.proofs.OrderLaws.{length-dispatch_order}
use Rattle.run_meaning.proofs.OrderMembers.{placed}
use Rattle.run_meaning.proofs.StartsAgree.{predecessors_below}
use Rattle.run_meaning.proofs.Sorted.{dispatch_below, dispatch_sorted, earlier_one_way, earlier-start, predecessors_come_earlier}
use Rattle.lists.proofs.Elements.{recursion_at}
use Rattle.run_cover.proofs.NextJob.{IsRun, IsNextJob}

module _ (table : Table) (schedule : List Place) where
  not_both : (x y : ℕ) → starts_earlier table schedule x y ≡ true → starts_earlier table schedule y x ≡ true → ⊥
  not_both x y h k = false≢true (sym (earlier_one_way table schedule x y h) ∙ k)

  start-le : (x y : ℕ) → starts_earlier table schedule x y ≡ true → start_of schedule x ≤ start_of schedule y
  start-le x y h = ⊎_elim
      (λ (less : start_of schedule y < start_of schedule x). absurd (not_both x y h (earlier-start table schedule y x less)))
      (λ (k : start_of schedule x ≤ start_of schedule y). k)
      (cases_lt (start_of schedule y) (start_of schedule x))

  urgent-from_tie : (x y : ℕ) → start_of schedule y ≡ start_of schedule x → starts_earlier table schedule x y ≡ true → has_urgency_over table x y ≡ true
  urgent-from_tie x y tie h =
      let same = ap (nat_cmp (start_of schedule x)) tie ∙ tied_itself nat_cmp_total (start_of schedule x) in
      sym (ap (λ o. is_lt (ordering_then o (urgency_cmp (job_at table x) (job_at table y)))) same) ∙ h

module _ {table : Table} {m : ℕ} {scenario : List (ℕ × ℕ)} {schedule : List Place} (run : IsRun table m scenario schedule) (count : ℕ) (short : count < length table.jobs) where
  abbrev order : List ℕ
  order = dispatch_order table schedule

  abbrev next_job : ℕ
  next_job = slice_index order count

  long : length order ≡ length table.jobs
  long = length-dispatch_order table schedule

  job_below : (k : ℕ) → k < length table.jobs → get_or order k 0 < length table.jobs
  job_below k below = recursion_at (λ i. i < length table.jobs) order k 0 (dispatch_below table schedule) (omega (arith, below, long))

  -- the place of one of the first jobs
  early_place : (i : ℕ) → is_member i (take count order) ≡ true → (k : ℕ) × (k < count) × (get_or order k 0 ≡ i)
  early_place i there =
      let found = Contains-from_member i (take count order) there in
      let less : found.0 < count = omega (arith, found.1, length-take count order) in
      (found.0, less, get_or_default order found.0 0 i (omega (arith, less, short, long)) ∙ sym (get_or-take count order found.0 i less) ∙ found.2)

  member-early : (i k : ℕ) → k < count → get_or order k 0 ≡ i → is_member i (take count order) ≡ true
  member-early i k less is =
      subst (λ x. is_member x (take count order) ≡ true) (get_or-take count order k 0 less ∙ is) (is_member-at (take count order) k 0 (omega (arith, less, short, long, length-take count order)))

  not_itself : (x : ℕ) → starts_earlier table schedule x x ≡ true → ⊥
  not_itself x h = not_both table schedule x x h h

  first_before : (i : ℕ) → is_member i (take count order) ≡ true → starts_earlier table schedule i next_job ≡ true
  first_before i there =
      let p = early_place i there in
      subst (λ x. starts_earlier table schedule x next_job ≡ true) p.2 (dispatch_sorted table schedule run.is_table p.0 count 0 p.1 short)

  -- the others come after the next job
  others_after : (x : ℕ) → x < length table.jobs → is_member x (take count order) ≡ false → x ≢ next_job → starts_earlier table schedule next_job x ≡ true
  others_after x below out other =
      let p = placed table schedule x below in
      at p.at p.below p.is (cases_order p.at count)
    where
      at : (k : ℕ) → k < length table.jobs → get_or order k 0 ≡ x → (k ≡ count) ⊎ ((k < count) ⊎ (count < k)) → starts_earlier table schedule next_job x ≡ true
      at k less is (inl same) = absurd (other (sym is ∙ ap (λ n. get_or order n 0) same))
      at k less is (inr (inl before)) = absurd (false≢true (sym out ∙ member-early x k before is))
      at k less is (inr (inr after)) = subst (λ y. starts_earlier table schedule next_job y ≡ true) is (dispatch_sorted table schedule run.is_table count k 0 after less)

  -- a predecessor comes earlier, so it is one of the first
  predecessor-early : (i : ℕ) → is_member i (predecessors table next_job) ≡ true → is_member i (take count order) ≡ true
  predecessor-early i edge =
      let contained : Contains (predecessors table next_job) i = Contains-from_member i (predecessors table next_job) edge in
      let below : i < length table.jobs =
      All-contains (λ x. x < length table.jobs) (predecessors table next_job) i (predecessors_below table scenario run.is_table run.fits next_job) contained in
      let before : starts_earlier table schedule i next_job ≡ true =
      predecessors_come_earlier table m scenario schedule run.is_table run.fits run.legal i next_job (job_below count short) contained in
      ⊎_elim
      (λ (there : is_member i (take count order) ≡ true). there)
      (λ (out : is_member i (take count order) ≡ false).
      let other : i ≢ next_job = λ e. not_itself next_job (subst (λ x. starts_earlier table schedule x next_job ≡ true) e before) in
      absurd (not_both table schedule i next_job before (others_after i below out other)))
      (cases_Bool (is_member i (take count order)))

  pub next_in_order : IsNextJob table schedule (take count order) next_job
  next_in_order = record {
    is_job = job_below count short;
    outside = false_from_ne_true (is_member next_job (take count order)) (λ there. not_itself next_job (first_before next_job there));
    of_table = λ i there.
        let p = early_place i there in
        subst (λ x. x < length table.jobs) p.2 (job_below p.0 (omega (arith, p.1, short)));
    no_later = λ i there. start-le table schedule i next_job (first_before i there);
    others_later = λ x below out other. start-le table schedule next_job x (others_after x below out other);
    less_urgent = λ x below out other tie. urgent-from_tie table schedule next_job x tie (others_after x below out other);
    after_predecessors = predecessor-early;
  }
