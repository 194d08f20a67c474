-- Jobs by falling urgency: what those in front leave to one that is less urgent.
use Rattle.std.proofs.Common.{◌≡◌, ◌≢◌, ◌∙◌, ℕ, suc, ◌-◌, ◌<◌, ◌≤◌, Bool, true, false, cond, not, List, [], ◌∷◌, ◌++◌, length, map, min, refl, sym, ap, arith, ltb, eqb}
use Rattle.std.specs.Prelude.{filter}
use Rattle.std.specs.List.{AllByRecursion, filter_map, list_all}
use Rattle.std.proofs.lemmas.Bool.{and_from, and_parts, cond-true, cond-false, eq-eqb, eqb-true, le-ltb, lt-ltb, ltb-true, not-false}
use Rattle.std.proofs.lemmas.List.{map-append, nil_from_length}
use Rattle.std.proofs.lemmas.List.Sums.{sum_by-cons}
use Rattle.job_sets.specs.Subset.{is_member, is_rising}
use Rattle.job_model.specs.Laws.{RanksOrderJobs}
use Rattle.lists.specs.Numbers.{greatest}
use Rattle.job_model.specs.Ranks.{rank_of}
use Rattle.job_model.specs.Table.{Table, IsTable, has_urgency_over, job_at, predecessors}
use Rattle.sag_time.specs.Interval.{Interval}
use Rattle.start_windows.specs.declared.eligibility.Prospect.{Prospect}
use Rattle.start_windows.specs.Ends.{high_end}
use Rattle.start_windows.specs.Window.{earliest_start, latest_ready, ready_beside}
use Rattle.start_windows.specs.Prospects.{cap_behind, cap_over, capped, is_tied, jobs_of, offer_over, prospect_of, times_in}
use Rattle.start_windows.proofs.Caps.{capped_min, capped_push, greatest-filter-le, window_of-none}
use Rattle.start_windows.proofs.Shuffles.{Rises, hits}
use Rattle.start_windows.proofs.Sweep.{ready_beside-plain}

-- ---- limits of a job: the latest moment at which it is ready

module _ (table : Table) (ends : List (ℕ × Interval)) where
  ready_beside-below : (j x : ℕ) → ready_beside table ends j x ≤ latest_ready table ends x
  ready_beside-below j x = omega (arith, greatest-filter-le (high_end ends) (λ i. not (is_member i (predecessors table j))) (predecessors table x))

  -- j has no predecessors that it could share
  ready_beside-alone : (j x : ℕ) → predecessors table j ≡ [] → ready_beside table ends j x ≡ latest_ready table ends x
  ready_beside-alone j x e =
      ap (λ ps. greatest ((job_at table x).rmax ∷ map (high_end ends) (filter (λ i. not (is_member i ps)) (predecessors table x)))) e
      ∙ ap (λ l. greatest ((job_at table x).rmax ∷ map (high_end ends) l)) (all_kept (predecessors table x))
    where
      all_kept : (is : List ℕ) → filter (λ i. not (is_member i [])) is ≡ is
      all_kept [] = refl
      all_kept (i ∷ is) = ap (λ l. i ∷ l) (all_kept is)

  -- it is looked up, and a job of the table
  abbrev pub Own : Prospect → Type 0
  Own c = (c ≡ prospect_of table ends c.job) × (c.job < length table.jobs)

-- ---- what jobs leave to one that is less urgent

-- `last` is the last start up to `certain` before one of these is certainly ready
pub record IsLast (certain last : ℕ) (seen : List Prospect) : Type 0 where
  pub is : suc last ≡ capped (suc certain) (map (λ c. c.latest) seen)

pub IsLast-none : (certain : ℕ) → IsLast certain certain []
IsLast-none certain = record { is = refl }

pub IsLast-more : (certain last : ℕ) (seen : List Prospect) (x : Prospect) → IsLast certain last seen → 0 < x.latest → IsLast certain (min last (x.latest - 1)) (seen ++ x ∷ [])
IsLast-more certain last seen x so_far after = record {
  is = one_less last (capped (suc certain) (map latest seen)) so_far.is ∙ sym (ap (capped (suc certain)) (map-append latest seen (x ∷ [])) ∙ capped_push (suc certain) (map latest seen) x.latest);
}
  where
    latest : Prospect → ℕ
    latest c = c.latest

    one_less : (a b : ℕ) → suc a ≡ b → suc (min a (x.latest - 1)) ≡ min b x.latest
    one_less a b e = omega (arith, e, after)

module _ (table : Table) (ends : List (ℕ × Interval)) where
  own_latest : (x : Prospect) → Own table ends x → x.latest ≡ latest_ready table ends x.job
  own_latest x own = ap (λ (c : Prospect). c.latest) own.0

  own_limit : (j : ℕ) (x : Prospect) → Own table ends x → is_tied x ≡ false → x.latest ≡ ready_beside table ends j x.job
  own_limit j x own e =
      let released : x.released ≡ (job_at table x.job).rmax = ap (λ (c : Prospect). c.released) own.0 in
      let same : x.latest ≡ x.released = eqb-true x.latest x.released (not-false (eqb x.latest x.released) e) in
      same ∙ released ∙ sym (ready_beside-plain table ends j x.job (sym (own_latest x own) ∙ same ∙ released))

  -- a minimum over the latest moments of all, and then over the limits of the tied ones
  all_and_tied : (c j : ℕ) (seen : List Prospect) → AllByRecursion (Own table ends) seen →
      capped (capped c (map (λ (x : Prospect). x.latest) seen)) (map (ready_beside table ends j) (jobs_of (filter is_tied seen))) ≡ capped c (map (ready_beside table ends j) (jobs_of seen))
  all_and_tied c j [] own = refl
  all_and_tied c j (x ∷ seen) own = by_test (is_tied x) (own_limit j x own.0) (all_and_tied c j seen own.1)
    where
      f : ℕ → ℕ
      f = ready_beside table ends j

      below : f x.job ≤ x.latest
      below = omega (arith, own_latest x own.0, ready_beside-below table ends j x.job)

      least_of : ℕ
      least_of = capped c (map (λ (y : Prospect). y.latest) seen)

      by_test : (t : Bool) → (t ≡ false → x.latest ≡ f x.job) → capped least_of (map f (jobs_of (filter is_tied seen))) ≡ capped c (map f (jobs_of seen)) →
          capped (min x.latest least_of) (map f (jobs_of (cond t (x ∷ filter is_tied seen) (filter is_tied seen)))) ≡ min (f x.job) (capped c (map f (jobs_of seen)))
      by_test true limit e = omega (arith, below, capped_min x.latest least_of (map f (jobs_of (filter is_tied seen))), e)
      by_test false limit e = omega (arith, limit refl, capped_min x.latest least_of (map f (jobs_of (filter is_tied seen))), e)

  alone : (c j : ℕ) (seen : List Prospect) → AllByRecursion (Own table ends) seen → predecessors table j ≡ [] →
      capped c (map (λ (x : Prospect). x.latest) seen) ≡ capped c (map (ready_beside table ends j) (jobs_of seen))
  alone c j [] own e = refl
  alone c j (x ∷ seen) own e =
      let latest : x.latest ≡ ready_beside table ends j x.job = own_latest x own.0 ∙ sym (ready_beside-alone table ends j x.job e) in
      ap (λ n. min n (capped c (map (λ (x : Prospect). x.latest) seen))) latest ∙ ap (min (ready_beside table ends j x.job)) (alone c j seen own.1 e)

  -- the cap of a job behind these
  pub cap_behind-is : (certain last : ℕ) (seen tied : List Prospect) (j : ℕ) → AllByRecursion (Own table ends) seen → IsLast certain last seen →
      ((c : ℕ) → capped c (map (ready_beside table ends j) (jobs_of tied)) ≡ capped c (map (ready_beside table ends j) (jobs_of (filter is_tied seen)))) →
      cap_behind table ends last (jobs_of tied) j ≡ capped (suc certain) (map (ready_beside table ends j) (jobs_of seen))
  cap_behind-is certain last seen tied j own so_far held = by_test (eqb (length (predecessors table j)) 0) refl
    where
      by_test : (t : Bool) → eqb (length (predecessors table j)) 0 ≡ t → cond t (suc last) (capped (suc last) (map (ready_beside table ends j) (jobs_of tied))) ≡ capped (suc certain) (map (ready_beside table ends j) (jobs_of seen))
      by_test true e = so_far.is ∙ alone (suc certain) j seen own (nil_from_length (predecessors table j) (eqb-true _ _ e))
      by_test false e =
          ap (λ c. capped c (map (ready_beside table ends j) (jobs_of tied))) so_far.is
          ∙ held (capped (suc certain) (map (λ (x : Prospect). x.latest) seen))
          ∙ all_and_tied (suc certain) j seen own

-- ---- the more urgent jobs are those in front

list_all-among : (p : ℕ → Bool) (before : List Prospect) (x : Prospect) (after : List Prospect) → list_all p (map (λ (c : Prospect). c.rank) (before ++ x ∷ after)) ≡ true → p x.rank ≡ true
list_all-among p [] x after e = (and_parts (p x.rank) (list_all p (map (λ (c : Prospect). c.rank) after)) e).0
list_all-among p (b ∷ before) x after e = list_all-among p before x after (and_parts (p b.rank) (list_all p (map (λ (c : Prospect). c.rank) (before ++ x ∷ after))) e).1

own_among : (P : Prospect → Type 0) (before : List Prospect) (x : Prospect) (after : List Prospect) → AllByRecursion P (before ++ x ∷ after) → P x × AllByRecursion P after
own_among P [] x after all = all
own_among P (b ∷ before) x after all = own_among P before x after all.1

module _ (law : RanksOrderJobs) (table : Table) (is_table : IsTable table) (ends : List (ℕ × Interval)) where
  by_rank : (x y : Prospect) → Own table ends x → Own table ends y → has_urgency_over table x.job y.job ≡ ltb x.rank y.rank
  by_rank x y own_x own_y =
      (law table x.job y.job is_table own_x.1 own_y.1).0
      ∙ ap (λ n. ltb n (rank_of table y.job)) (sym (ap (λ (c : Prospect). c.rank) own_x.0)) ∙ ap (ltb x.rank) (sym (ap (λ (c : Prospect). c.rank) own_y.0))

  rising_parts : (x : Prospect) (xs : List Prospect) → is_rising (map (λ (c : Prospect). c.rank) (x ∷ xs)) ≡ true →
      (list_all (ltb x.rank) (map (λ (c : Prospect). c.rank) xs) ≡ true) × (is_rising (map (λ (c : Prospect). c.rank) xs) ≡ true)
  rising_parts x xs up = and_parts (list_all (ltb x.rank) (map (λ (c : Prospect). c.rank) xs)) (is_rising (map (λ (c : Prospect). c.rank) xs)) up

  pub urgent_in_front : (before : List Prospect) (x : Prospect) (after : List Prospect) → AllByRecursion (Own table ends) (before ++ x ∷ after) → is_rising (map (λ (c : Prospect). c.rank) (before ++ x ∷ after)) ≡ true →
      filter (λ y. has_urgency_over table y x.job) (jobs_of (before ++ x ∷ after)) ≡ jobs_of before
  urgent_in_front [] x after own up =
      cond-false _ _ _ (by_rank x x own.0 own.0 ∙ le-ltb x.rank x.rank (omega arith)) ∙ none after own.1 (rising_parts x after up).0
    where
      none : (ys : List Prospect) → AllByRecursion (Own table ends) ys → list_all (ltb x.rank) (map (λ (c : Prospect). c.rank) ys) ≡ true → filter (λ y. has_urgency_over table y x.job) (jobs_of ys) ≡ []
      none [] all above = refl
      none (y ∷ ys) all above =
          let parts = and_parts (ltb x.rank y.rank) (list_all (ltb x.rank) (map (λ (c : Prospect). c.rank) ys)) above in
          let less : x.rank < y.rank = ltb-true x.rank y.rank parts.0 in
          cond-false _ _ _ (by_rank y x all.0 own.0 ∙ le-ltb y.rank x.rank (omega (arith, less))) ∙ none ys all.1 parts.1
  urgent_in_front (b ∷ before) x after own up =
      let parts = rising_parts b (before ++ x ∷ after) up in
      let urgent : has_urgency_over table b.job x.job ≡ true = by_rank b x own.0 (own_among (Own table ends) before x after own.1).0 ∙ list_all-among (ltb b.rank) before x after parts.0 in
      cond-true _ _ _ urgent ∙ ap (λ l. b.job ∷ l) (urgent_in_front before x after own.1 parts.1)

  -- where one is certainly ready when a core is possibly free, none behind it has a window
  capped_among : (c : ℕ) (f : ℕ → ℕ) (p : ℕ → Bool) (before : List Prospect) (x : Prospect) (after : List Prospect) → p x.job ≡ true → capped c (map f (filter p (jobs_of (before ++ x ∷ after)))) ≤ f x.job
  capped_among c f p [] x after passes = let first = ap (λ l. capped c (map f l)) (cond-true (p x.job) (x.job ∷ filter p (jobs_of after)) (filter p (jobs_of after)) passes) in omega (arith, first)
  capped_among c f p (b ∷ before) x after passes = by_test (p b.job) (capped_among c f p before x after passes)
    where
      by_test : (t : Bool) → capped c (map f (filter p (jobs_of (before ++ x ∷ after)))) ≤ f x.job →
          capped c (map f (cond t (b.job ∷ filter p (jobs_of (before ++ x ∷ after))) (filter p (jobs_of (before ++ x ∷ after))))) ≤ f x.job
      by_test true le = omega (arith, le)
      by_test false le = le

  pub none_behind : (first : Interval) (certain : ℕ) (before : List Prospect) (x : Prospect) (after : List Prospect) → AllByRecursion (Own table ends) (before ++ x ∷ after) →
      is_rising (map (λ (c : Prospect). c.rank) (before ++ x ∷ after)) ≡ true → x.latest ≤ first.lo → filter_map (offer_over table ends first certain (jobs_of (before ++ x ∷ after))) (jobs_of after) ≡ []
  none_behind first certain before x after own up early = go after own_x.1 (rising_x before own up)
    where
      own_x : Own table ends x × AllByRecursion (Own table ends) after
      own_x = own_among (Own table ends) before x after own

      rising_x : (us : List Prospect) → AllByRecursion (Own table ends) (us ++ x ∷ after) → is_rising (map (λ (c : Prospect). c.rank) (us ++ x ∷ after)) ≡ true → list_all (ltb x.rank) (map (λ (c : Prospect). c.rank) after) ≡ true
      rising_x [] all up = (rising_parts x after up).0
      rising_x (u ∷ us) all up = rising_x us all.1 (rising_parts u (us ++ x ∷ after) up).1

      go : (ys : List Prospect) → AllByRecursion (Own table ends) ys → list_all (ltb x.rank) (map (λ (c : Prospect). c.rank) ys) ≡ true → filter_map (offer_over table ends first certain (jobs_of (before ++ x ∷ after))) (jobs_of ys) ≡ []
      go [] all above = refl
      go (y ∷ ys) all above =
          let parts = and_parts (ltb x.rank y.rank) (list_all (ltb x.rank) (map (λ (c : Prospect). c.rank) ys)) above in
          let urgent : has_urgency_over table x.job y.job ≡ true = by_rank x y own_x.0 all.0 ∙ parts.0 in
          let latest : x.latest ≡ latest_ready table ends x.job = ap (λ (c : Prospect). c.latest) own_x.0.0 in
          let cap = capped_among (suc certain) (ready_beside table ends y.job) (λ z. has_urgency_over table z y.job) before x after urgent in
          let none = window_of-none (earliest_start table ends first y.job) (cap_over table ends certain (jobs_of (before ++ x ∷ after)) y.job) (omega (arith, early, latest, cap, ready_beside-below table ends y.job x.job)) in
          rw none (go ys all.1 parts.1)

  -- a list by rank in which no job is twice
  pub IsByUrgency-from_sort : (xs : List Prospect) → AllByRecursion (Own table ends) xs → Rises (map (λ (c : Prospect). c.rank) xs) → ((j : ℕ) → times_in (jobs_of xs) j ≤ 1) → is_rising (map (λ (c : Prospect). c.rank) xs) ≡ true
  IsByUrgency-from_sort [] own up once = refl
  IsByUrgency-from_sort (x ∷ xs) own up once =
      let counted = λ (j : ℕ). sum_by-cons (hits j) x.job (jobs_of xs) in
      let here : hits x.job x.job ≡ 1 = cond-true _ _ _ (same x.job) in
      let none : times_in (jobs_of xs) x.job ≡ 0 = omega (arith, once x.job, counted x.job, here) in
      and_from _ _ (above xs own.1 up.0 none) (IsByUrgency-from_sort xs own.1 up.1 (λ j. omega (arith, once j, counted j)))
    where
      same : (n : ℕ) → eqb n n ≡ true
      same n = eq-eqb n n refl

      above : (ys : List Prospect) → AllByRecursion (Own table ends) ys → AllByRecursion (λ r. x.rank ≤ r) (map (λ (c : Prospect). c.rank) ys) → times_in (jobs_of ys) x.job ≡ 0 → list_all (ltb x.rank) (map (λ (c : Prospect). c.rank) ys) ≡ true
      above [] all le none = refl
      above (y ∷ ys) all le none =
          let counted = sum_by-cons (hits x.job) y.job (jobs_of ys) in
          let apart : x.job ≢ y.job = λ e. let here : hits x.job y.job ≡ 1 = cond-true _ _ _ (eq-eqb y.job x.job (sym e)) in absurd (omega (arith, none, counted, here)) in
          let differ = (law table x.job y.job is_table own.0.1 all.0.1).1 apart in
          let rank_x : x.rank ≡ rank_of table x.job = ap (λ (c : Prospect). c.rank) own.0.0 in
          let rank_y : y.rank ≡ rank_of table y.job = ap (λ (c : Prospect). c.rank) all.0.0 in
          let unlike : x.rank ≢ y.rank = λ e. differ (sym rank_x ∙ e ∙ rank_y) in
          and_from _ _ (lt-ltb x.rank y.rank (omega (arith, le.0, unlike))) (above ys all.1 le.1 (omega (arith, none, counted)))
