-- The windows of a state from those candidates that may be released by the moment at which some job certainly starts.
use Rattle.std.proofs.Common.{◌≡◌, ◌∙◌, ℕ, suc, ◌≤◌, true, false, cond, List, [], ◌∷◌, map, not, Option, Some, None, refl, sym, ap, subst, arith, length}
use Rattle.std.specs.Prelude.{IsPermutation, filter}
use Rattle.std.specs.List.{AllByRecursion, cons_option, filter_map, sum_by}
use Rattle.std.specs.List.Sorted.{IsNonDecreasingBy}
use Rattle.std.specs.Option.{is_some, option_map}
use Rattle.std.proofs.lemmas.Bool.{leb-false}
use Rattle.std.proofs.lemmas.List.Elements.{All-from_recursion, recursion_from_All}
use Rattle.std.proofs.lemmas.List.Sorted.{All-permutation, IsPermutation-map, sum_by-IsPermutation}
use Rattle.job_sets.specs.Subset.{is_member}
use Rattle.lists.specs.Numbers.{numbers_below}
use Rattle.job_model.specs.Table.{Table, IsTable, job_at, has_urgency_over, predecessors}
use Rattle.sag_time.specs.Interval.{Interval}
use Rattle.start_windows.specs.Ends.{high_end}
use Rattle.start_windows.specs.declared.StartWindow.{StartWindow}
use Rattle.start_windows.specs.Window.{is_candidate, candidates, latest_ready, earliest_start, certain_start, ready_beside, start_window}
use Rattle.start_windows.specs.Eligible.{eligible_windows, with_window}
use Rattle.start_windows.specs.Prospects.{IsShuffle, cap_over, capped, is_near, offer_over, window_of, window_over}
use Rattle.start_windows.proofs.Caps.{capped-kept, capped-le, filter-filter, filter-kept, filter_map-filter, filter_map-same, greatest-filter-le, window-capped, window_of-none}
use Rattle.start_windows.proofs.Shuffles.{IsShuffle-filter, Rises, Rises-by, Rises-filter, capped-shuffle, hits, rises-unique}
use Rattle.start_windows.proofs.SomeEligible.{released}

-- ---- limits of moments

module _ (table : Table) (ends : List (ℕ × Interval)) where
  pub latest_ready-above : (x : ℕ) → (job_at table x).rmax ≤ latest_ready table ends x
  latest_ready-above x = omega arith

  pub ready_beside-above : (j x : ℕ) → (job_at table x).rmax ≤ ready_beside table ends j x
  ready_beside-above j x = omega arith

  -- where its predecessors do not hold x up
  pub ready_beside-plain : (j x : ℕ) → latest_ready table ends x ≡ (job_at table x).rmax → ready_beside table ends j x ≡ (job_at table x).rmax
  ready_beside-plain j x e =
      omega (arith, e, ready_beside-above j x, greatest-filter-le (high_end ends) (λ i. not (is_member i (predecessors table j))) (predecessors table x))

-- ---- jobs with their windows

module _ (window : ℕ → Option StartWindow) where
  abbrev pub offered : ℕ → Option (ℕ × StartWindow)
  offered j = option_map (λ u. (j, u)) (window j)

  offered-jobs : (xs : List ℕ) → map (λ (e : ℕ × StartWindow). e.0) (filter_map offered xs) ≡ filter (λ j. is_some (window j)) xs
  offered-jobs [] = refl
  offered-jobs (x ∷ xs) = by_window (window x) (offered-jobs xs)
    where
      by_window : (o : Option StartWindow) → map (λ (e : ℕ × StartWindow). e.0) (filter_map offered xs) ≡ filter (λ j. is_some (window j)) xs →
          map (λ (e : ℕ × StartWindow). e.0) (cons_option (option_map (λ u. (x, u)) o) (filter_map offered xs)) ≡ cond (is_some o) (x ∷ filter (λ j. is_some (window j)) xs) (filter (λ j. is_some (window j)) xs)
      by_window None e = e
      by_window (Some u) e = ap (λ l. x ∷ l) e

  offered-own : (xs : List ℕ) → AllByRecursion (λ e. offered e.0 ≡ Some e) (filter_map offered xs)
  offered-own [] = tt
  offered-own (x ∷ xs) = by_window (window x) refl (offered-own xs)
    where
      by_window : (o : Option StartWindow) → window x ≡ o → AllByRecursion (λ e. offered e.0 ≡ Some e) (filter_map offered xs) → AllByRecursion (λ e. offered e.0 ≡ Some e) (cons_option (option_map (λ u. (x, u)) o) (filter_map offered xs))
      by_window None e all = all
      by_window (Some u) e all = (ap (option_map (λ u. (x, u))) e, all)

  offered-has : (xs : List ℕ) → filter_map offered xs ≡ filter_map offered (filter (λ j. is_some (window j)) xs)
  offered-has = filter_map-filter offered offered (λ j. is_some (window j)) (λ j h. refl) (λ j h. by_window j (window j) h)
    where
      by_window : (j : ℕ) (o : Option StartWindow) → is_some o ≡ false → option_map {U = ℕ × StartWindow} (λ u. (j, u)) o ≡ None
      by_window j None h = refl
      by_window j (Some u) h = cc

  own_windows : (es : List (ℕ × StartWindow)) → AllByRecursion (λ e. offered e.0 ≡ Some e) es → es ≡ filter_map offered (map (λ e. e.0) es)
  own_windows [] all = refl
  own_windows (e ∷ es) all = ap (λ l. e ∷ l) (own_windows es all.1) ∙ ap (λ o. cons_option o (filter_map offered (map (λ (e : ℕ × StartWindow). e.0) es))) (sym all.0)

-- ---- far candidates

module _ (table : Table) (ends : List (ℕ × Interval)) (first : Interval) where
  start_window-candidate : (set : List ℕ) (j : ℕ) → is_candidate table set j ≡ true → start_window table set ends first j ≡ window_over table ends first (certain_start table set ends first) (candidates table set) j
  start_window-candidate set j c = rw c (window-capped (earliest_start table ends first j) (certain_start table set ends first) _)

  start_window-other : (set : List ℕ) (j : ℕ) → is_candidate table set j ≡ false → start_window table set ends first j ≡ None
  start_window-other set j c = rw c refl

  -- a job that is released only after `certain` caps nothing
  cap_over-near : IsTable table → (certain : ℕ) (xs : List ℕ) (j : ℕ) → cap_over table ends certain (filter (is_near table certain) xs) j ≡ cap_over table ends certain xs j
  cap_over-near t certain xs j =
      let more = λ (x : ℕ). has_urgency_over table x j in
      let ys = filter more xs in
      let kept = capped-kept (suc certain) (suc certain) (ready_beside table ends j) (is_near table certain) (λ x far. omega (arith, leb-false _ _ far, released table t x, ready_beside-above table ends j x)) ys in
      let a = capped-le (suc certain) (map (ready_beside table ends j) ys) in
      let b = capped-le (suc certain) (map (ready_beside table ends j) (filter (is_near table certain) ys)) in
      let e : capped (suc certain) (map (ready_beside table ends j) (filter (is_near table certain) ys)) ≡ capped (suc certain) (map (ready_beside table ends j) ys) = omega (arith, kept, a, b) in
      rw (filter-filter more (is_near table certain) xs) e

  -- nor may it be the next to start
  window_over-far : (certain : ℕ) (xs : List ℕ) (j : ℕ) → is_near table certain j ≡ false → window_over table ends first certain xs j ≡ None
  window_over-far certain xs j far =
      window_of-none _ _ (omega (arith, leb-false _ _ far, capped-le (suc certain) (map (ready_beside table ends j) (filter (λ x. has_urgency_over table x j) xs))))

  -- all windows, over the candidates
  pub eligible-candidates : (set : List ℕ) → eligible_windows table set ends first ≡ filter_map (offer_over table ends first (certain_start table set ends first) (candidates table set)) (candidates table set)
  eligible-candidates set =
      filter_map-filter (with_window table set ends first) (offer_over table ends first (certain_start table set ends first) (candidates table set)) (is_candidate table set)
      (λ j h. ap (option_map (λ u. (j, u))) (start_window-candidate set j h)) (λ j h. ap (option_map (λ u. (j, u))) (start_window-other set j h)) (numbers_below (length table.jobs))

  -- a cap is the same over any list with the same near jobs
  cap_over-shuffle : IsTable table → (certain : ℕ) (xs ys : List ℕ) → IsShuffle (filter (is_near table certain) xs) (filter (is_near table certain) ys) → (j : ℕ) → cap_over table ends certain xs j ≡ cap_over table ends certain ys j
  cap_over-shuffle t certain xs ys same j =
      sym (cap_over-near t certain xs j) ∙ capped-shuffle (suc certain) (ready_beside table ends j) (λ x. has_urgency_over table x j) (filter (is_near table certain) xs) (filter (is_near table certain) ys) same ∙ cap_over-near t certain ys j

  -- the jobs that have a window, in rising order, from any list with the same near jobs
  windows-shuffle : (certain : ℕ) (all xs ys : List ℕ) → IsShuffle (filter (is_near table certain) xs) (filter (is_near table certain) ys) → (j : ℕ) →
      sum_by (hits j) (filter (λ x. is_some (window_over table ends first certain all x)) xs) ≡ sum_by (hits j) (filter (λ x. is_some (window_over table ends first certain all x)) ys)
  windows-shuffle certain all xs ys same j =
      let p = λ (x : ℕ). is_some (window_over table ends first certain all x) in
      let near = is_near table certain in
      let kept = filter-kept p near (λ x h. ap is_some (window_over-far certain all x h)) in
      ap (sum_by (hits j)) (sym (kept xs)) ∙ (IsShuffle-filter p (filter near xs) (filter near ys) same).sums (hits j) ∙ ap (sum_by (hits j)) (kept ys)

  -- the windows of a list with the same near jobs, by rising number
  pub eligible-sorted : IsTable table → (set all found : List ℕ) (w : ℕ) (into : List (ℕ × StartWindow)) → Rises all → filter_map (offer_over table ends first w all) all ≡ eligible_windows table set ends first →
      IsShuffle (filter (is_near table w) found) (filter (is_near table w) all) → IsPermutation (filter_map (offer_over table ends first w found) found) into →
      IsNonDecreasingBy (λ (e : ℕ × StartWindow). e.0) into → into ≡ eligible_windows table set ends first
  eligible-sorted t set all found w into rises back same moved up =
      let window = window_over table ends first w all in
      let offer = offered window in
      let has = λ (j : ℕ). is_some (window j) in
      let key = λ (e : ℕ × StartWindow). e.0 in
      let offers : filter_map (offer_over table ends first w found) found ≡ filter_map offer found =
      filter_map-same (offer_over table ends first w found) offer (λ j. ap (λ c. option_map (λ u. (j, u)) (window_of (earliest_start table ends first j) c)) (cap_over-shuffle t w found all same j)) found in
      let moved' : IsPermutation (filter_map offer found) into = subst (λ (l : List (ℕ × StartWindow)). IsPermutation l into) offers moved in
      let own = recursion_from_All (λ e. offer e.0 ≡ Some e) into (All-permutation (λ e. offer e.0 ≡ Some e) (filter_map offer found) into moved' (All-from_recursion (λ e. offer e.0 ≡ Some e) (filter_map offer found) (offered-own window found))) in
      let jobs : map key into ≡ filter has all =
      rises-unique (map key into) (filter has all) (Rises-by key into up) (Rises-filter has all rises)
      (λ j. sum_by-IsPermutation (hits j) (map key (filter_map offer found)) (map key into) (IsPermutation-map key (filter_map offer found) into moved')
      ∙ ap (sum_by (hits j)) (offered-jobs window found) ∙ windows-shuffle w all found all same j) in
      own_windows window into own ∙ ap (filter_map offer) jobs ∙ sym (offered-has window all) ∙ back
