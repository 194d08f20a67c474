-- Candidates that are less urgent than one that is certainly ready once a core is possibly free: none has a window, and none
-- limits one that is more urgent.
use Rattle.std.proofs.Common.{◌≡◌, ◌∙◌, ℕ, suc, ◌+◌, ◌<◌, ◌≤◌, Bool, true, false, ◌&&◌, cond, eqb, ltb, List, [], ◌∷◌, length, map, not, Option, Some, None, refl, sym, ap, subst, arith}
use Rattle.std.specs.Prelude.{filter, IfSome, IsPermutation}
use Rattle.std.specs.List.{AllByRecursion, cons_option, filter_map, list_all}
use Rattle.std.specs.List.Sorted.{IsNonDecreasingBy}
use Rattle.std.specs.Option.{option_map}
use Rattle.std.proofs.lemmas.Bool.{and_parts, cond-false, eqb-true, leb-false, leb-true, le-ltb, lt-ltb, ltb-true}
use Rattle.std.proofs.lemmas.List.Sums.{sum_by-cons}
use Rattle.job_sets.specs.Subset.{is_member}
use Rattle.job_model.specs.Laws.{RanksOrderJobs}
use Rattle.job_model.specs.Ranks.{rank_of}
use Rattle.job_model.specs.Table.{Table, IsTable, has_urgency_over, predecessors}
use Rattle.lists.specs.Numbers.{numbers_below}
use Rattle.sag_time.specs.Interval.{Interval}
use Rattle.start_windows.specs.declared.StartWindow.{StartWindow}
use Rattle.start_windows.specs.Ends.{high_end}
use Rattle.start_windows.specs.Window.{is_candidate, candidates, certain_start, earliest_start, latest_ready, ready_beside}
use Rattle.start_windows.specs.Eligible.{eligible_windows}
use Rattle.start_windows.specs.Prospects.{HoldNear, IsSure, cap_over, capped, is_within, offer_over, times_in, window_of}
use Rattle.start_windows.proofs.Caps.{greatest-filter-le, window_of-none}
use Rattle.start_windows.proofs.Shuffles.{Rises-filter, Rises-range, hits}
use Rattle.start_windows.proofs.Sweep.{eligible-candidates, eligible-sorted}

-- ---- lists of numbers below n

-- where what fails q fails p
filter_in : (n : ℕ) (p q : ℕ → Bool) → ((x : ℕ) → x < n → q x ≡ false → p x ≡ false) → (xs : List ℕ) → AllByRecursion (λ x. x < n) xs → filter p (filter q xs) ≡ filter p xs
filter_in n p q fails [] below = refl
filter_in n p q fails (x ∷ xs) below = by_test (q x) (fails x below.0) (filter_in n p q fails xs below.1)
  where
    by_test : (t : Bool) → (t ≡ false → p x ≡ false) → filter p (filter q xs) ≡ filter p xs → filter p (cond t (x ∷ filter q xs) (filter q xs)) ≡ cond (p x) (x ∷ filter p xs) (filter p xs)
    by_test true h e = ap (λ l. cond (p x) (x ∷ l) l) e
    by_test false h e = e ∙ sym (cond-false _ _ _ (h refl))

-- where h gives nothing of what fails p, and what g gives of the rest
filter_map_in : {Y : Type 0} (n : ℕ) (h g : ℕ → Option Y) (p : ℕ → Bool) → ((x : ℕ) → x < n → p x ≡ true → h x ≡ g x) → ((x : ℕ) → x < n → p x ≡ false → h x ≡ None) →
    (xs : List ℕ) → AllByRecursion (λ x. x < n) xs → filter_map h xs ≡ filter_map g (filter p xs)
filter_map_in n h g p same none [] below = refl
filter_map_in {Y} n h g p same none (x ∷ xs) below = by_test (p x) (same x below.0) (none x below.0) (filter_map_in n h g p same none xs below.1)
  where
    by_test : (t : Bool) → (t ≡ true → h x ≡ g x) → (t ≡ false → h x ≡ None) → filter_map h xs ≡ filter_map g (filter p xs)
        → cons_option (h x) (filter_map h xs) ≡ filter_map g (cond t (x ∷ filter p xs) (filter p xs))
    by_test true s n e = rw (s refl, e) refl
    by_test false s n e = rw (n refl) e

all_kept : (xs : List ℕ) → filter (λ x. true) xs ≡ xs
all_kept [] = refl
all_kept (x ∷ xs) = ap (λ l. x ∷ l) (all_kept xs)

nothing : 1 ≤ 0 → ⊥
nothing h = omega arith

-- one that stands in the list
in_range : (n : ℕ) (xs : List ℕ) (y : ℕ) → AllByRecursion (λ x. x < n) xs → 1 ≤ times_in xs y → y < n
in_range n [] y below there = absurd (nothing there)
in_range n (x ∷ xs) y below there = by_test (eqb x y) refl (sum_by-cons (hits y) x xs) (in_range n xs y below.1)
  where
    by_test : (t : Bool) → eqb x y ≡ t → times_in (x ∷ xs) y ≡ cond t 1 0 + times_in xs y → (1 ≤ times_in xs y → y < n) → y < n
    by_test true e s rest = omega (arith, eqb-true x y e, below.0)
    by_test false e s rest = rest (omega (arith, s, there))

capped_in : (c : ℕ) (f : ℕ → ℕ) (p : ℕ → Bool) (xs : List ℕ) (y : ℕ) → p y ≡ true → 1 ≤ times_in xs y → capped c (map f (filter p xs)) ≤ f y
capped_in c f p [] y passes there = absurd (nothing there)
capped_in c f p (x ∷ xs) y passes there = by_tests (p x) (eqb x y) refl refl (sum_by-cons (hits y) x xs) (capped_in c f p xs y passes)
  where
    by_tests : (s t : Bool) → p x ≡ s → eqb x y ≡ t → times_in (x ∷ xs) y ≡ cond t 1 0 + times_in xs y → (1 ≤ times_in xs y → capped c (map f (filter p xs)) ≤ f y) → capped c (map f (cond s (x ∷ filter p xs) (filter p xs))) ≤ f y
    by_tests true true ps e s rest = omega (arith, ap f (eqb-true x y e))
    by_tests true false ps e s rest = omega (arith, rest (omega (arith, s, there)))
    by_tests false true ps e s rest = absurd (differ (sym ps ∙ ap p (eqb-true x y e) ∙ passes))
      where
        differ : false ≡ true → ⊥
        differ h = cc
    by_tests false false ps e s rest = rest (omega (arith, s, there))

-- ---- the windows of those that may lead

module _ (law : RanksOrderJobs) (table : Table) (is_table : IsTable table) (ends : List (ℕ × Interval)) (first : Interval) where
  beside_below : (j x : ℕ) → ready_beside table ends j x ≤ latest_ready table ends x
  beside_below j x = omega (arith, greatest-filter-le (high_end ends) (λ i. not (is_member i (predecessors table j))) (predecessors table x))

  offers-within : (w : ℕ) (sure : Option ℕ) (xs : List ℕ) → AllByRecursion (λ x. x < length table.jobs) xs → IfSome sure (IsSure table ends first xs xs) →
      filter_map (offer_over table ends first w xs) xs ≡ filter_map (offer_over table ends first w (filter (is_within table sure) xs)) (filter (is_within table sure) xs)
  offers-within w None xs below cut = sym (ap (λ l. filter_map (offer_over table ends first w l) l) (all_kept xs))
  offers-within w (Some u) xs below cut = filter_map_in (length table.jobs) (offer_over table ends first w xs) (offer_over table ends first w (filter p xs)) p same none xs below
    where
      p : ℕ → Bool
      p = is_within table (Some u)

      same : (x : ℕ) → x < length table.jobs → p x ≡ true → offer_over table ends first w xs x ≡ offer_over table ends first w (filter p xs) x
      same x inside leads =
          ap (λ ys. option_map {U = ℕ × StartWindow} (λ v. (x, v)) (window_of (earliest_start table ends first x) (capped (suc w) (map (ready_beside table ends x) ys))))
          (sym (filter_in (length table.jobs) (λ y. has_urgency_over table y x) p
          (λ y there behind. (law table y x is_table there inside).0 ∙ le-ltb (rank_of table y) (rank_of table x) (omega (arith, leb-true (rank_of table x) u leads, leb-false (rank_of table y) u behind))) xs below))

      none : (x : ℕ) → x < length table.jobs → p x ≡ false → offer_over table ends first w xs x ≡ None
      none x inside behind =
          let there = in_range (length table.jobs) xs cut.job below cut.is_kept in
          let urgent : has_urgency_over table cut.job x ≡ true = (law table cut.job x is_table there inside).0 ∙ lt-ltb (rank_of table cut.job) (rank_of table x) (omega (arith, cut.rank_is, leb-false (rank_of table x) u behind)) in
          let cap = capped_in (suc w) (ready_beside table ends x) (λ z. has_urgency_over table z x) xs cut.job urgent cut.is_kept in
          ap (option_map {U = ℕ × StartWindow} (λ v. (x, v)))
          (window_of-none (earliest_start table ends first x) (cap_over table ends w xs x) (omega (arith, cap, cut.early, beside_below x cut.job)))

  range_of_candidates : (set xs : List ℕ) → AllByRecursion (λ x. x < length table.jobs) (filter (is_candidate table set) xs)
  range_of_candidates set [] = tt
  range_of_candidates set (x ∷ xs) = by_test (is_candidate table set x) refl (range_of_candidates set xs)
    where
      by_test : (t : Bool) → is_candidate table set x ≡ t → AllByRecursion (λ y. y < length table.jobs) (filter (is_candidate table set) xs) → AllByRecursion (λ y. y < length table.jobs) (cond t (x ∷ filter (is_candidate table set) xs) (filter (is_candidate table set) xs))
      by_test true e all = (
        ltb-true x (length table.jobs) (and_parts (ltb x (length table.jobs)) (not (is_member x set))
            (and_parts (ltb x (length table.jobs) && not (is_member x set)) (list_all (λ i. is_member i set) (predecessors table x)) e).0).0,
        all,
      )
      by_test false e all = all

  sure_among : (sure : Option ℕ) (among kept : List ℕ) → IfSome sure (IsSure table ends first among kept) → IfSome sure (IsSure table ends first among among)
  sure_among None among kept h = tt
  sure_among (Some u) among kept h = record { job = h.job; rank_is = h.rank_is; is_among = h.is_among; is_kept = h.is_among; early = h.early }

  sure_kept : (sure : Option ℕ) (among kept : List ℕ) → IfSome sure (IsSure table ends first among kept) → IfSome sure (IsSure table ends first kept kept)
  sure_kept None among kept h = tt
  sure_kept (Some u) among kept h = record { job = h.job; rank_is = h.rank_is; is_among = h.is_kept; is_kept = h.is_kept; early = h.early }

  -- MAIN: the windows of a list with the same near jobs that may lead, by rising number
  pub eligible-within : (set found : List ℕ) (w : ℕ) (into : List (ℕ × StartWindow)) → w ≡ certain_start table set ends first → HoldNear table set ends first w found → AllByRecursion (λ x. x < length table.jobs) found →
      IsPermutation (filter_map (offer_over table ends first w found) found) into → IsNonDecreasingBy (λ (e : ℕ × StartWindow). e.0) into → into ≡ eligible_windows table set ends first
  eligible-within set found w into is near below moved up =
      let all = candidates table set in
      let p = is_within table near.sure in
      let kept = offers-within w near.sure found below (sure_kept near.sure all found near.cut) in
      let led = offers-within w near.sure all (range_of_candidates set (numbers_below (length table.jobs))) (sure_among near.sure all found near.cut) in
      let whole : filter_map (offer_over table ends first w all) all ≡ eligible_windows table set ends first =
      subst (λ (u : ℕ). filter_map (offer_over table ends first u all) all ≡ eligible_windows table set ends first) (sym is) (sym (eligible-candidates table ends first set)) in
      eligible-sorted table ends first is_table set (filter p all) (filter p found) w into
      (Rises-filter p all (Rises-filter (is_candidate table set) (numbers_below (length table.jobs)) (Rises-range 0 (length table.jobs))))
      (sym led ∙ whole) near.same (subst (λ (l : List (ℕ × StartWindow)). IsPermutation l into) kept moved) up
