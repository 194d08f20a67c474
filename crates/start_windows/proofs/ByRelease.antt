-- A walk over the jobs by rising release, that stops early: what it has collected, in rising order of the numbers.
use Rattle.std.proofs.Common.{◌≡◌, ℕ, ◌+◌, ◌<◌, ◌≤◌, true, false, List, [], ◌∷◌, ◌++◌, map, max, ap, ◌∙◌, sym, subst, arith, Option, Some, None, ltb, length, get_or}
use Rattle.std.specs.Prelude.{filter, IfSome, IsSomeAnd, IsPermutation, unwrap_or, ◌&&◌}
use Rattle.std.specs.List.{AllByRecursion, sum_by}
use Rattle.std.proofs.lemmas.List.{append-nil, append_assoc}
use Rattle.std.proofs.lemmas.List.Sorted.{sum_by-IsPermutation}
use Rattle.lists.specs.Numbers.{numbers_below}
use Rattle.job_model.specs.Table.{Table, IsTable, job_at}
use Rattle.sag_time.specs.Interval.{Interval}
use Rattle.start_windows.specs.Window.{is_candidate, candidates, latest_ready, certain_start}
use Rattle.job_model.specs.Releases.{IsReleaseOrder, release_order}
use Rattle.start_windows.specs.Eligible.{IsFront}
use Rattle.start_windows.specs.Prospects.{Collected, HoldNear, IsShuffle, IsSure, is_near, is_within, times_in}
use Rattle.job_sets.specs.Subset.{is_member}
use Rattle.std.specs.Prelude.{take, drop, not}
use Rattle.std.proofs.lemmas.List.{get_or-take, get_or-drop, length-take, length-drop, take_more, map-append, take-append-drop}
use Rattle.std.proofs.lemmas.List.Elements.{All-from_get_or, All-map, recursion_from_All}
use Rattle.std.proofs.lemmas.Bool.{and_left, and_right}
use Rattle.start_windows.proofs.Shuffles.{IsShuffle-filter, IsShuffle-from_permutation, hits, least-shuffle, times_in-range}
use Rattle.start_windows.proofs.Collecting.{Collected-far, Collected-other}

module _ (table : Table) (set : List ℕ) (ends : List (ℕ × Interval)) (first : Interval) (sure : Option ℕ) where
  -- STOP: where all that follow are released after the least Rmax so far and after CA_1
  pub Collected-stop : IsTable table → (seen vs : List ℕ) (r : ℕ) (rest : List ℕ) → Collected table set ends first sure seen vs (Some r) →
      AllByRecursion (λ x. max first.hi r < (job_at table x).rmin) rest → Collected table set ends first sure (seen ++ rest) vs (Some r)
  Collected-stop t seen vs r [] c all = subst (λ s. Collected table set ends first sure s vs (Some r)) (sym (append-nil seen)) c
  Collected-stop t seen vs r (x ∷ rest) c all =
      subst (λ s. Collected table set ends first sure s vs (Some r)) (append_assoc seen (x ∷ []) rest)
      (Collected-stop t (seen ++ x ∷ []) vs r rest (Collected-far table set ends first sure t seen vs r x c all.0) all.1)

  -- START: where all in front are no candidates, as they are dispatched
  pub Collected-start : (seen vs : List ℕ) (low : Option ℕ) (front : List ℕ) → Collected table set ends first sure seen vs low →
      AllByRecursion (λ x. is_candidate table set x ≡ false) front → Collected table set ends first sure (seen ++ front) vs low
  Collected-start seen vs low [] c all = subst (λ s. Collected table set ends first sure s vs low) (sym (append-nil seen)) c
  Collected-start seen vs low (x ∷ front) c all =
      subst (λ s. Collected table set ends first sure s vs low) (append_assoc seen (x ∷ []) front)
      (Collected-start (seen ++ x ∷ []) vs low front (Collected-other table set ends first sure seen vs low x c all.0) all.1)

  -- ORDER: after a walk over the jobs in any order, and a sort of what it collected
  pub certain-walked : (order kept : List ℕ) (ready : Option ℕ) → IsPermutation (numbers_below (length table.jobs)) order → Collected table set ends first sure order kept ready →
      max first.hi (unwrap_or ready 0) ≡ certain_start table set ends first
  certain-walked order kept ready moved c =
      let same = IsShuffle-from_permutation (numbers_below (length table.jobs)) order moved in
      ap (λ o. max first.hi (unwrap_or o 0)) (c.ready_is ∙ sym (least-shuffle (latest_ready table ends) (is_candidate table set) (numbers_below (length table.jobs)) order same))

  pub near-walked : (order kept sorted : List ℕ) (ready : Option ℕ) → IsPermutation (numbers_below (length table.jobs)) order → Collected table set ends first sure order kept ready →
      IsPermutation kept sorted → (w : ℕ) → w ≡ max first.hi (unwrap_or ready 0) → HoldNear table set ends first w sorted
  near-walked order kept sorted ready moved c again w e =
      let numbers = numbers_below (length table.jobs) in
      let here = IsShuffle-filter (is_near table w) _ _ (IsShuffle-filter (is_within table sure) kept sorted (IsShuffle-from_permutation kept sorted again)) in
      let there = IsShuffle-filter (is_near table w) _ _ (IsShuffle-filter (is_within table sure) _ _ among) in
      record { sure = sure; same = record { sums = λ f. sym (here.sums f) ∙ ap (sum_by f) (c.same_near w (within ready e)) ∙ sym (there.sums f) }; cut = by_sure sure c.cut }
    where
      within : (o : Option ℕ) → w ≡ max first.hi (unwrap_or o 0) → IfSome o (λ r. w ≤ max first.hi r)
      within None e = tt
      within (Some r) e = omega arith

      among : IsShuffle (candidates table set) (filter (is_candidate table set) order)
      among = IsShuffle-filter (is_candidate table set) (numbers_below (length table.jobs)) order (IsShuffle-from_permutation (numbers_below (length table.jobs)) order moved)

      by_sure : (o : Option ℕ) → IfSome o (IsSure table ends first (filter (is_candidate table set) order) kept) → IfSome o (IsSure table ends first (candidates table set) sorted)
      by_sure None h = tt
      by_sure (Some u) h = record {
        job = h.job;
        rank_is = h.rank_is;
        is_among = omega (arith, h.is_among, among.sums (hits h.job));
        is_kept = omega (arith, h.is_kept, sum_by-IsPermutation (hits h.job) kept sorted again);
        early = h.early;
      }

  pub once-walked : (order kept sorted : List ℕ) (ready : Option ℕ) → IsPermutation (numbers_below (length table.jobs)) order → Collected table set ends first sure order kept ready →
      IsPermutation kept sorted → (j : ℕ) → times_in sorted j ≤ 1
  once-walked order kept sorted ready moved c again j =
      omega (arith, sum_by-IsPermutation (hits j) kept sorted again, c.once j, sum_by-IsPermutation (hits j) (numbers_below (length table.jobs)) order moved, times_in-range 0 (length table.jobs) j)

-- the jobs in front of the walk are dispatched
pub front_dispatched : (table : Table) (set : List ℕ) (order : List (ℕ × ℕ)) (front : ℕ) → order ≡ release_order table → IsFront table set front → AllByRecursion (λ x. is_member x set ≡ true) (map (λ e. e.1) (take front order))
front_dispatched table set order front own is =
    recursion_from_All (λ x. is_member x set ≡ true) (map (λ e. e.1) (take front order))
    (All-map (λ x. is_member x set ≡ true) (λ (e : ℕ × ℕ). e.1) (take front order)
    (All-from_get_or (λ e. is_member e.1 set ≡ true) (take front order) (0, 0)
    (λ i lt. let below : i < front = omega (arith, lt, length-take front order) in
    subst (λ (e : ℕ × ℕ). is_member e.1 set ≡ true) (sym (get_or-take front order i (0, 0) below))
    (subst (λ (l : List (ℕ × ℕ)). is_member (get_or l i (0, 0)).1 set ≡ true) (sym own) (is.passed i below)))))

-- dispatched jobs are no candidates
pub no_candidates : (table : Table) (set xs : List ℕ) → AllByRecursion (λ x. is_member x set ≡ true) xs → AllByRecursion (λ x. is_candidate table set x ≡ false) xs
no_candidates table set [] all = tt
no_candidates table set (x ∷ xs) all = (and_left (ltb x (length table.jobs) && not (is_member x set)) _ (and_right _ _ (ap not all.0)), no_candidates table set xs all.1)

-- one more place of the order
pub order_more : (order : List (ℕ × ℕ)) (place : ℕ) → place < length order → map (λ (e : ℕ × ℕ). e.1) (take (place + 1) order) ≡ map (λ e. e.1) (take place order) ++ (get_or order place (0, 0)).1 ∷ []
order_more order place there = ap (map (λ (e : ℕ × ℕ). e.1)) (take_more order place (0, 0) there) ∙ map-append (λ (e : ℕ × ℕ). e.1) (take place order) (get_or order place (0, 0) ∷ [])

-- what was seen and what was not
pub order_split : (order : List (ℕ × ℕ)) (place : ℕ) → map (λ (e : ℕ × ℕ). e.1) (take place order) ++ map (λ e. e.1) (drop place order) ≡ map (λ e. e.1) order
order_split order place = sym (map-append (λ (e : ℕ × ℕ). e.1) (take place order) (drop place order)) ∙ ap (map (λ (e : ℕ × ℕ). e.1)) (take-append-drop place order)

-- where one is released beyond, all that follow are
pub rest_beyond : (table : Table) (order : List (ℕ × ℕ)) (place m : ℕ) → IsReleaseOrder table order → place < length order → m < (get_or order place (0, 0)).0 →
    AllByRecursion (λ x. m < (job_at table x).rmin) (map (λ e. e.1) (drop place order))
rest_beyond table order place m is there beyond =
    recursion_from_All (λ x. m < (job_at table x).rmin) (map (λ e. e.1) (drop place order))
    (All-map (λ x. m < (job_at table x).rmin) (λ (e : ℕ × ℕ). e.1) (drop place order)
    (All-from_get_or (λ e. m < (job_at table e.1).rmin) (drop place order) (0, 0)
    (λ i lt. let short : place + i < length order = omega (arith, lt, length-drop place order) in
    subst (λ (e : ℕ × ℕ). m < (job_at table e.1).rmin) (sym (get_or-drop place order i (0, 0)))
    (omega (arith, (is.own (place + i) (0, 0) short).0, is.rising place (place + i) (0, 0) (omega arith) short, beyond)))))

-- the walk stops at a job that is released too late
pub walk_stop : (table : Table) (set : List ℕ) (ends : List (ℕ × Interval)) (first : Interval) (sure : Option ℕ) → IsTable table → (order : List (ℕ × ℕ)) (place : ℕ) (vs : List ℕ) (low : Option ℕ) →
    IsReleaseOrder table order → place < length order → Collected table set ends first sure (map (λ e. e.1) (take place order)) vs low →
    IsSomeAnd low (λ r. max first.hi r < (get_or order place (0, 0)).0) → Collected table set ends first sure (map (λ e. e.1) order) vs low
walk_stop table set ends first sure t order place vs None is there c h = absurd h
walk_stop table set ends first sure t order place vs (Some r) is there c h =
    subst (λ s. Collected table set ends first sure s vs (Some r)) (order_split order place)
    (Collected-stop table set ends first sure t (map (λ e. e.1) (take place order)) vs r (map (λ e. e.1) (drop place order)) c (rest_beyond table order place (max first.hi r) is there h))
