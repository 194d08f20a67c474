-- What a walk over jobs has collected, step by step; and one more window.
use Rattle.std.proofs.Common.{◌≡◌, ◌∙◌, ℕ, ◌+◌, ◌<◌, ◌≤◌, Bool, true, false, List, [], ◌∷◌, ◌++◌, length, map, min, max, take, drop, get_or, Option, Some, None, cond, leb, refl, sym, ap, subst, arith}
use Rattle.std.specs.Prelude.{filter, IfSome, IsSomeAnd}
use Rattle.std.specs.List.{cons_option, filter_map}
use Rattle.std.specs.Option.{option_map, option_map_or}
use Rattle.std.proofs.lemmas.Bool.{cond-true, cond-false, eq-eqb, leb-false, leb-true, lt-leb}
use Rattle.std.proofs.lemmas.List.{append-nil, drop_more, map-append, map_more}
use Rattle.std.proofs.lemmas.List.Elements.{All-push, filter-append, filter_map-append}
use Rattle.std.proofs.lemmas.List.Sums.{sum_by_push}
use Rattle.lists.specs.Numbers.{least}
use Rattle.job_model.specs.Table.{Table, IsTable, job_at}
use Rattle.sag_time.specs.Interval.{Interval}
use Rattle.start_windows.specs.declared.StartWindow.{StartWindow}
use Rattle.start_windows.specs.declared.eligibility.Prospect.{Prospect}
use Rattle.start_windows.specs.Window.{is_candidate, latest_ready}
use Rattle.start_windows.specs.Prospects.{AreProspects, Collected, IsSure, is_near, is_within, jobs_of, kept_with, may_lead, prospect_of, sure_with, times_in}
use Rattle.job_model.specs.Ranks.{rank_of}
use Rattle.start_windows.proofs.Caps.{filter-filter, filter-kept}
use Rattle.start_windows.proofs.Passing.{least_push}
use Rattle.start_windows.proofs.SomeEligible.{released}
use Rattle.start_windows.proofs.Shuffles.{hits}
use Rattle.start_windows.proofs.Sweep.{latest_ready-above}

pub Collected-none : (table : Table) (set : List ℕ) (ends : List (ℕ × Interval)) (first : Interval) → Collected table set ends first None [] [] None
Collected-none table set ends first = record { ready_is = refl; same_near = λ w le. refl; once = λ j. omega arith; cut = tt }

module _ (table : Table) (set : List ℕ) (ends : List (ℕ × Interval)) (first : Interval) (sure : Option ℕ) where
  -- one more job, which may be kept
  cut_more : (among kept : List ℕ) (x : ℕ) → IfSome sure (IsSure table ends first among kept) → IfSome sure (IsSure table ends first (among ++ x ∷ []) kept)
  cut_more among kept x = by_sure sure
    where
      by_sure : (o : Option ℕ) → IfSome o (IsSure table ends first among kept) → IfSome o (IsSure table ends first (among ++ x ∷ []) kept)
      by_sure None h = tt
      by_sure (Some u) h = record { job = h.job; rank_is = h.rank_is; is_among = omega (arith, h.is_among, sum_by_push (hits h.job) among x); is_kept = h.is_kept; early = h.early }

  cut_push : (among kept : List ℕ) (x : ℕ) → IfSome sure (IsSure table ends first among kept) → IfSome sure (IsSure table ends first (among ++ x ∷ []) (kept ++ x ∷ []))
  cut_push among kept x = by_sure sure
    where
      by_sure : (o : Option ℕ) → IfSome o (IsSure table ends first among kept) → IfSome o (IsSure table ends first (among ++ x ∷ []) (kept ++ x ∷ []))
      by_sure None h = tt
      by_sure (Some u) h = record {
        job = h.job;
        rank_is = h.rank_is;
        is_among = omega (arith, h.is_among, sum_by_push (hits h.job) among x);
        is_kept = omega (arith, h.is_kept, sum_by_push (hits h.job) kept x);
        early = h.early;
      }

  passed : (seen : List ℕ) (x : ℕ) → is_candidate table set x ≡ true → filter (is_candidate table set) (seen ++ x ∷ []) ≡ filter (is_candidate table set) seen ++ x ∷ []
  passed seen x h = filter-append (is_candidate table set) seen (x ∷ []) ∙ ap (λ l. filter (is_candidate table set) seen ++ l) (cond-true _ _ _ h)

  once_more : (seen kept : List ℕ) (x j : ℕ) → times_in kept j ≤ times_in seen j → times_in kept j ≤ times_in (seen ++ x ∷ []) j
  once_more seen kept x j le = omega (arith, le, sum_by_push (hits j) seen x)

  left_out : (seen : List ℕ) (x : ℕ) → is_candidate table set x ≡ false → filter (is_candidate table set) (seen ++ x ∷ []) ≡ filter (is_candidate table set) seen
  left_out seen x h = filter-append (is_candidate table set) seen (x ∷ []) ∙ ap (λ l. filter (is_candidate table set) seen ++ l) (cond-false _ _ _ h) ∙ append-nil (filter (is_candidate table set) seen)

  -- those near that may lead
  abbrev close : ℕ → List ℕ → List ℕ
  close w xs = filter (is_near table w) (filter (is_within table sure) xs)

  pub Collected-other : (seen kept : List ℕ) (ready : Option ℕ) (x : ℕ) → Collected table set ends first sure seen kept ready → is_candidate table set x ≡ false → Collected table set ends first sure (seen ++ x ∷ []) kept ready
  Collected-other seen kept ready x c h =
      let e = left_out seen x h in
      record {
        ready_is = c.ready_is ∙ ap (λ l. least (map (latest_ready table ends) l)) (sym e);
        same_near = λ w le. c.same_near w le ∙ ap (close w) (sym e);
        once = λ j. once_more seen kept x j (c.once j);
        cut = subst (λ l. IfSome sure (IsSure table ends first l kept)) (sym e) c.cut;
      }

  close_push : (w : ℕ) (xs : List ℕ) (x : ℕ) → close w (xs ++ x ∷ []) ≡ close w xs ++ close w (x ∷ [])
  close_push w xs x =
      ap (filter (is_near table w)) (filter-append (is_within table sure) xs (x ∷ []))
      ∙ filter-append (is_near table w) (filter (is_within table sure) xs) (filter (is_within table sure) (x ∷ []))

  close_far : (w x : ℕ) → is_near table w x ≡ false → close w (x ∷ []) ≡ []
  close_far w x far = by_test (is_within table sure x)
    where
      by_test : (t : Bool) → filter (is_near table w) (cond t (x ∷ []) []) ≡ []
      by_test true = cond-false _ _ _ far
      by_test false = refl

  close_behind : (w x : ℕ) → is_within table sure x ≡ false → close w (x ∷ []) ≡ []
  close_behind w x behind = ap (filter (is_near table w)) (cond-false (is_within table sure x) (x ∷ []) [] behind)

  -- the first moment at which a candidate is certainly ready, with one more candidate
  ready_push : (seen : List ℕ) (ready : Option ℕ) (x : ℕ) → ready ≡ least (map (latest_ready table ends) (filter (is_candidate table set) seen)) → is_candidate table set x ≡ true →
      Some (option_map_or (λ t. min t (latest_ready table ends x)) ready (latest_ready table ends x)) ≡ least (map (latest_ready table ends) (filter (is_candidate table set) (seen ++ x ∷ [])))
  ready_push seen ready x e h =
      let f = latest_ready table ends in
      let cs = filter (is_candidate table set) seen in
      ap (λ o. Some (option_map_or (λ t. min t (f x)) o (f x))) e ∙ sym (least_push (map f cs) (f x)) ∙ ap least (sym (map-append f cs (x ∷ []))) ∙ ap (λ l. least (map f l)) (sym (passed seen x h))

  weaker : (x w : ℕ) (o : Option ℕ) → w ≤ max first.hi (option_map_or (λ t. min t (latest_ready table ends x)) o (latest_ready table ends x)) → IfSome o (λ t. w ≤ max first.hi t)
  weaker x w None le = tt
  weaker x w (Some t) le = omega arith

  -- a candidate that may not lead
  pub Collected-behind : (seen kept : List ℕ) (ready : Option ℕ) (x : ℕ) → Collected table set ends first sure seen kept ready → is_candidate table set x ≡ true → is_within table sure x ≡ false →
      Collected table set ends first sure (seen ++ x ∷ []) kept (Some (option_map_or (λ t. min t (latest_ready table ends x)) ready (latest_ready table ends x)))
  Collected-behind seen kept ready x c h behind =
      let cs = filter (is_candidate table set) seen in
      record {
        ready_is = ready_push seen ready x c.ready_is h;
        same_near = λ w le. c.same_near w (weaker x w ready le) ∙ sym (append-nil (close w cs)) ∙ ap (λ l. close w cs ++ l) (sym (close_behind w x behind)) ∙ sym (close_push w cs x) ∙ ap (close w) (sym (passed seen x h));
        once = λ j. once_more seen kept x j (c.once j);
        cut = subst (λ l. IfSome sure (IsSure table ends first l kept)) (sym (passed seen x h)) (cut_more cs kept x c.cut);
      }

  Collected-push : (seen kept : List ℕ) (ready : Option ℕ) (x : ℕ) → Collected table set ends first sure seen kept ready → is_candidate table set x ≡ true →
      Collected table set ends first sure (seen ++ x ∷ []) (kept ++ x ∷ []) (Some (option_map_or (λ t. min t (latest_ready table ends x)) ready (latest_ready table ends x)))
  Collected-push seen kept ready x c h = record {
    ready_is = ready_push seen ready x c.ready_is h;
    same_near = λ w le. close_push w kept x ∙ ap (λ l. l ++ close w (x ∷ [])) (c.same_near w (weaker x w ready le)) ∙ sym (close_push w (filter (is_candidate table set) seen) x) ∙ ap (close w) (sym (passed seen x h));
    once = λ j. omega (arith, c.once j, sum_by_push (hits j) seen x, sum_by_push (hits j) kept x);
    cut = subst (λ l. IfSome sure (IsSure table ends first l (kept ++ x ∷ []))) (sym (passed seen x h)) (cut_push (filter (is_candidate table set) seen) kept x c.cut);
  }

  -- a job that is released only after some candidate certainly starts, candidate or not
  pub Collected-far : IsTable table → (seen kept : List ℕ) (t x : ℕ) → Collected table set ends first sure seen kept (Some t) → max first.hi t < (job_at table x).rmin → Collected table set ends first sure (seen ++ x ∷ []) kept (Some t)
  Collected-far is_table seen kept t x c far = by_test (is_candidate table set x) refl
    where
      by_test : (b : Bool) → is_candidate table set x ≡ b → Collected table set ends first sure (seen ++ x ∷ []) kept (Some t)
      by_test false h = Collected-other seen kept (Some t) x c h
      by_test true h = record {
        ready_is = ap Some (unchanged t (latest_ready table ends x) late) ∙ ready_push seen (Some t) x c.ready_is h;
        same_near = λ w le. c.same_near w le ∙ sym (append-nil (close w (filter (is_candidate table set) seen)))
            ∙ ap (λ l. close w (filter (is_candidate table set) seen) ++ l) (sym (close_far w x (lt-leb _ _ (after w le))))
            ∙ sym (close_push w (filter (is_candidate table set) seen) x) ∙ ap (close w) (sym (passed seen x h));
        once = λ j. once_more seen kept x j (c.once j);
        cut = subst (λ l. IfSome sure (IsSure table ends first l kept)) (sym (passed seen x h)) (cut_more (filter (is_candidate table set) seen) kept x c.cut);
      }
        where
          late : t < latest_ready table ends x
          late = omega (arith, far, released table is_table x, latest_ready-above table ends x)

          after : (w : ℕ) → w ≤ max first.hi t → w < (job_at table x).rmin
          after w le = omega (arith, far, le)

          unchanged : (a b : ℕ) → a < b → a ≡ min a b
          unchanged a b h = omega arith

-- ---- the loop's steps

pushed_once : (xs : List ℕ) (x : ℕ) → 1 ≤ times_in (xs ++ x ∷ []) x
pushed_once xs x = let here : hits x x ≡ 1 = cond-true _ _ _ (eq-eqb x x refl) in omega (arith, sum_by_push (hits x) xs x, here)

-- one that is kept is certainly ready once a core is possibly free
Collected-sure : (table : Table) (set : List ℕ) (ends : List (ℕ × Interval)) (first : Interval) (sure : Option ℕ) (seen kept : List ℕ) (ready : Option ℕ) (x : ℕ) → Collected table set ends first sure seen kept ready →
    is_within table sure x ≡ true → latest_ready table ends x ≤ first.lo → 1 ≤ times_in (filter (is_candidate table set) seen) x → 1 ≤ times_in kept x → Collected table set ends first (Some (rank_of table x)) seen kept ready
Collected-sure table set ends first sure seen kept ready x c leads early among there = record {
  ready_is = c.ready_is;
  same_near = λ w le. tighter w kept ∙ ap (filter next) (c.same_near w le) ∙ sym (tighter w (filter (is_candidate table set) seen));
  once = c.once;
  cut = record { job = x; rank_is = refl; is_among = among; is_kept = there; early = early };
}
  where
    next : ℕ → Bool
    next = is_within table (Some (rank_of table x))

    fewer : (y : ℕ) → is_within table sure y ≡ false → next y ≡ false
    fewer y = by_sure sure leads
      where
        by_sure : (o : Option ℕ) → is_within table o x ≡ true → is_within table o y ≡ false → leb (rank_of table y) (rank_of table x) ≡ false
        by_sure None t f = cc
        by_sure (Some u) t f = lt-leb _ _ (omega (arith, leb-true (rank_of table x) u t, leb-false (rank_of table y) u f))

    tighter : (w : ℕ) (xs : List ℕ) → filter (is_near table w) (filter next xs) ≡ filter next (filter (is_near table w) (filter (is_within table sure) xs))
    tighter w xs = ap (filter (is_near table w)) (sym (filter-kept next (is_within table sure) fewer xs)) ∙ filter-filter (is_near table w) next (filter (is_within table sure) xs)

pub Collected-found : (table : Table) (set : List ℕ) (ends : List (ℕ × Interval)) (first : Interval) (sure : Option ℕ) (seen : List ℕ) (found : List Prospect) (ready : Option ℕ) (item : Prospect) →
    Collected table set ends first sure seen (jobs_of found) ready → is_candidate table set item.job ≡ true → item.latest ≡ latest_ready table ends item.job →
    Collected table set ends first sure (seen ++ item.job ∷ []) (jobs_of (found ++ item ∷ [])) (Some (option_map_or (λ t. min t item.latest) ready item.latest))
Collected-found table set ends first sure seen found ready item c h e =
    let pushed : jobs_of (found ++ item ∷ []) ≡ jobs_of found ++ item.job ∷ [] = map-append (λ (c : Prospect). c.job) found (item ∷ []) in
    subst (λ kept. Collected table set ends first sure (seen ++ item.job ∷ []) kept (Some (option_map_or (λ t. min t item.latest) ready item.latest))) (sym pushed)
    (subst (λ u. Collected table set ends first sure (seen ++ item.job ∷ []) (jobs_of found ++ item.job ∷ []) (Some (option_map_or (λ t. min t u) ready u))) (sym e)
    (Collected-push table set ends first sure seen (jobs_of found) ready item.job c h))

-- one more candidate, kept if it may lead
pub Collected-kept : (table : Table) (set : List ℕ) (ends : List (ℕ × Interval)) (first : Interval) (sure : Option ℕ) (seen : List ℕ) (found : List Prospect) (ready : Option ℕ) (item : Prospect) →
    Collected table set ends first sure seen (jobs_of found) ready → is_candidate table set item.job ≡ true → item.latest ≡ latest_ready table ends item.job → item.rank ≡ rank_of table item.job →
    Collected table set ends first (sure_with first.lo sure item) (seen ++ item.job ∷ []) (jobs_of (kept_with sure item found)) (Some (option_map_or (λ t. min t item.latest) ready item.latest))
Collected-kept table set ends first sure seen found ready item c h late rank = by_lead (may_lead sure item.rank) refl
  where
    low : Option ℕ
    low = Some (option_map_or (λ t. min t item.latest) ready item.latest)

    pushed : jobs_of (found ++ item ∷ []) ≡ jobs_of found ++ item.job ∷ []
    pushed = map-append (λ (c : Prospect). c.job) found (item ∷ [])

    among : 1 ≤ times_in (filter (is_candidate table set) (seen ++ item.job ∷ [])) item.job
    among = subst (λ l. 1 ≤ times_in l item.job) (sym (passed table set ends first sure seen item.job h)) (pushed_once (filter (is_candidate table set) seen) item.job)

    by_early : (b : Bool) → leb item.latest first.lo ≡ b → may_lead sure item.rank ≡ true → Collected table set ends first (cond b (Some item.rank) sure) (seen ++ item.job ∷ []) (jobs_of (found ++ item ∷ [])) low
    by_early false e leads = Collected-found table set ends first sure seen found ready item c h late
    by_early true e leads =
        subst (λ u. Collected table set ends first (Some u) (seen ++ item.job ∷ []) (jobs_of (found ++ item ∷ [])) low) (sym rank)
        (Collected-sure table set ends first sure (seen ++ item.job ∷ []) (jobs_of (found ++ item ∷ [])) low item.job (Collected-found table set ends first sure seen found ready item c h late)
        (ap (may_lead sure) (sym rank) ∙ leads) (omega (arith, late, leb-true item.latest first.lo e)) among (subst (λ l. 1 ≤ times_in l item.job) (sym pushed) (pushed_once (jobs_of found) item.job)))

    by_lead : (a : Bool) → may_lead sure item.rank ≡ a →
        Collected table set ends first (cond a (cond (leb item.latest first.lo) (Some item.rank) sure) sure) (seen ++ item.job ∷ []) (jobs_of (cond a (found ++ item ∷ []) found)) low
    by_lead true e = by_early (leb item.latest first.lo) refl e
    by_lead false e =
        subst (λ u. Collected table set ends first sure (seen ++ item.job ∷ []) (jobs_of found) (Some (option_map_or (λ t. min t u) ready u))) (sym late)
        (Collected-behind table set ends first sure seen (jobs_of found) ready item.job c h (ap (may_lead sure) (sym rank) ∙ e))

pub AreProspects-push : (table : Table) (ends : List (ℕ × Interval)) (found : List Prospect) (item : Prospect) → AreProspects table ends found → item ≡ prospect_of table ends item.job → item.job < length table.jobs →
    AreProspects table ends (found ++ item ∷ [])
AreProspects-push table ends found item all is below = All-push (λ (c : Prospect). (c ≡ prospect_of table ends c.job) × (c.job < length table.jobs)) found item all (is, below)

pub AreProspects-kept : (table : Table) (ends : List (ℕ × Interval)) (sure : Option ℕ) (found : List Prospect) (item : Prospect) → AreProspects table ends found → item ≡ prospect_of table ends item.job → item.job < length table.jobs →
    AreProspects table ends (kept_with sure item found)
AreProspects-kept table ends sure found item all is below = by_lead (may_lead sure item.rank)
  where
    by_lead : (a : Bool) → AreProspects table ends (cond a (found ++ item ∷ []) found)
    by_lead true = AreProspects-push table ends found item all is below
    by_lead false = all

pub Collected-same : (table : Table) (set : List ℕ) (ends : List (ℕ × Interval)) (first : Interval) (sure sure' : Option ℕ) (seen seen' : List ℕ) (found found' : List Prospect) (ready ready' : Option ℕ) → sure' ≡ sure → seen' ≡ seen → found' ≡ found → ready' ≡ ready →
    Collected table set ends first sure seen (jobs_of found) ready → Collected table set ends first sure' seen' (jobs_of found') ready'
Collected-same table set ends first sure sure' seen seen' found found' ready ready' o p q r c =
    subst (λ u. Collected table set ends first u seen' (jobs_of found') ready') (sym o)
    (subst (λ s. Collected table set ends first sure s (jobs_of found') ready') (sym p)
    (subst (λ (f : List Prospect). Collected table set ends first sure seen (jobs_of f) ready') (sym q)
    (subst (λ o. Collected table set ends first sure seen (jobs_of found) o) (sym r) c)))

pub beyond_same : (ready : Option ℕ) (a b s t : ℕ) → a ≡ b → s ≡ t → IsSomeAnd ready (λ r. max a r < s) → IsSomeAnd ready (λ r. max b r < t)
beyond_same None a b s t p q h = absurd h
beyond_same (Some r) a b s t p q h = omega arith

-- ---- one prospect after the other

pub rest_more : (found : List Prospect) (i : ℕ) (x : Prospect) → i < length found → x ≡ get_or found i x → drop i found ≡ x ∷ drop (i + 1) found
rest_more found i x below is = drop_more found i x below ∙ ap (λ y. y ∷ drop (i + 1) found) (sym is)

pub looked_at : (table : Table) (ends : List (ℕ × Interval)) (found : List Prospect) (i : ℕ) (x : Prospect) → AreProspects table ends found → i < length found → x ≡ get_or found i x →
    (x ≡ prospect_of table ends x.job) × (x.job < length table.jobs)
looked_at table ends found i x looked below is = subst (λ (y : Prospect). (y ≡ prospect_of table ends y.job) × (y.job < length table.jobs)) (sym is) (looked i x below)

-- one more job, with its window if it has one
pub offer_more : (offer : ℕ → Option (ℕ × StartWindow)) (found : List Prospect) (i : ℕ) (x : Prospect) → i < length found → x ≡ get_or found i x →
    filter_map offer (jobs_of (take (i + 1) found)) ≡ filter_map offer (jobs_of (take i found)) ++ cons_option (offer x.job) []
offer_more offer found i x below is =
    ap (filter_map offer) (map_more (λ (c : Prospect). c.job) found i x below) ∙ filter_map-append offer (jobs_of (take i found)) ((get_or found i x).job ∷ [])
    ∙ ap (λ (y : Prospect). filter_map offer (jobs_of (take i found)) ++ cons_option (offer y.job) []) (sym is)

pub offered-some : (j : ℕ) (o : Option StartWindow) (w : StartWindow) → o ≡ Some w → cons_option {X = ℕ × StartWindow} (option_map (λ u. (j, u)) o) [] ≡ (j, w) ∷ []
offered-some j o w e = ap (λ (o : Option StartWindow). cons_option {X = ℕ × StartWindow} (option_map (λ u. (j, u)) o) []) e

pub offered-none : (j : ℕ) (o : Option StartWindow) → o ≡ None → cons_option {X = ℕ × StartWindow} (option_map (λ u. (j, u)) o) [] ≡ []
offered-none j o e = ap (λ (o : Option StartWindow). cons_option {X = ℕ × StartWindow} (option_map (λ u. (j, u)) o) []) e
