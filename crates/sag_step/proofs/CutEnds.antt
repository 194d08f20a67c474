-- Ends that are cut, and the jobs that stay last on their cores.
use Rattle.std.proofs.Common.{◌≡◌, ℕ, zero, suc, ◌<◌, ◌≤◌, length, slice_get, slice_index_or, get_or, Bool, true, false, cond, List, [], ◌∷◌, ◌++◌, drop, filter, map, min, refl, ap, sym, ◌∙◌, subst, arith, All, Less, Equal, Greater, Ordering}
use Rattle.std.specs.Prelude.{nat_le, nat_eq, nat_lt, ◌==◌, ◌||◌, Some, IsTrue, slice_index, slice_set}
use Rattle.std.specs.Ordering.{nat_cmp, MatchOrdering, match_ordering}
use Rattle.std.specs.BTreeMap.{insert_entry}
use Rattle.std.proofs.lemmas.Cmp.{ranked}
use Rattle.std.proofs.lemmas.List.{get_or-map, length-map}
use Rattle.std.proofs.lemmas.Option.{get_or_from_slice_get, slice_get_within}
use Rattle.std.proofs.lemmas.List.Elements.{All-map, All-filter, All-weaker}
use Rattle.std.specs.List.{list_all}
use Rattle.std.specs.Map.{keys_of, lookup}
use Rattle.std.specs.Option.{option_map_or}
use Rattle.std.proofs.lemmas.Bool.{and_parts, and_from, or_from, or_parts, leb-true, ltb-true, le-leb, eqb-true, eq-eqb, ne_eqb, false≢true}
use Rattle.job_sets.specs.Subset.{Subset, IsSubset, is_member, is_rising, is_within, with_number}
use Rattle.job_sets.proofs.Additions.{is_member-with_number, is_rising-with_number}
use Rattle.job_sets.proofs.Filters.{is_rising-filter, above-outside}
use Rattle.job_sets.proofs.Members.{list_all-member, list_all-from_members, is_member-at, is_member-filter, is_member-first, is_member-from_filter, is_member-push, is_member-rest}
use Rattle.job_model.specs.Table.{Table, predecessors}
use Rattle.sag_time.specs.Interval.{Interval}
use Rattle.start_windows.specs.Ends.{low_end}
use Rattle.sag_step.specs.State.{is_tracked, tracked_jobs}
use Rattle.sag_step.specs.Next.{cut_end, cut_ends, ended_by, runs_past, still_last, still_tracked}
use Rattle.sag_step.proofs.ListsOfEnds.{All-insert_entry}

pub low_end-absent : (ends : List (ℕ × Interval)) (i : ℕ) → is_member i (keys_of ends) ≡ false → low_end ends i ≡ 0
low_end-absent [] i out = refl
low_end-absent (e ∷ es) i out =
    let parts = or_parts (e.0 == i) (is_member i (keys_of es)) out in
    let other : nat_eq i e.0 ≡ false = grind (arith, parts.0) in
    ap (λ b. option_map_or (λ (s : Interval). s.lo) (cond b (Some e.1) (lookup (nat_eq i) es)) 0) other ∙ low_end-absent es i parts.1

module _ (table : Table) (j lst : ℕ) where
  pub keys_of-cut : (ends : List (ℕ × Interval)) → keys_of (cut_ends table j lst ends) ≡ keys_of ends
  keys_of-cut [] = refl
  keys_of-cut (e ∷ es) = ap (λ ks. e.0 ∷ ks) (keys_of-cut es)

  -- what begins early enough in a list does so in the rest of it
  pub begun-rest : (e : ℕ × Interval) (es : List (ℕ × Interval)) → is_rising (keys_of (e ∷ es)) ≡ true → ((i : ℕ) → is_member i (predecessors table j) ≡ true → low_end (e ∷ es) i ≤ lst) →
      (i : ℕ) → is_member i (predecessors table j) ≡ true → low_end es i ≤ lst
  begun-rest e es rising early i there = at (nat_eq i e.0) refl
    where
      at : (b : Bool) → nat_eq i e.0 ≡ b → low_end es i ≤ lst
      at true is =
          let up = and_parts (list_all (nat_lt e.0) (keys_of es)) (is_rising (keys_of es)) rising in
          let none : low_end es i ≡ 0 = ap (low_end es) (eqb-true i e.0 is) ∙ low_end-absent es e.0 (above-outside e.0 (keys_of es) up.0) in
          omega (arith, none)
      at false is =
          let same : low_end (e ∷ es) i ≡ low_end es i = ap (λ b. option_map_or (λ (s : Interval). s.lo) (cond b (Some e.1) (lookup (nat_eq i) es)) 0) is in
          omega (arith, same, early i there)

  -- no predecessor of j ends before it begins, by the latest start of j
  pub spans-cut : (ends : List (ℕ × Interval)) → is_rising (keys_of ends) ≡ true → ((i : ℕ) → is_member i (predecessors table j) ≡ true → low_end ends i ≤ lst) →
      list_all (λ e. nat_le e.1.lo e.1.hi) ends ≡ true → list_all (λ e. nat_le e.1.lo e.1.hi) (cut_ends table j lst ends) ≡ true
  spans-cut [] rising early all = refl
  spans-cut (e ∷ es) rising early all =
      let parts = and_parts (nat_le e.1.lo e.1.hi) (list_all (λ e. nat_le e.1.lo e.1.hi) es) all in
      let up = and_parts (list_all (nat_lt e.0) (keys_of es)) (is_rising (keys_of es)) rising in
      and_from (nat_le (cut_end table j lst e).1.lo (cut_end table j lst e).1.hi) (list_all (λ e. nat_le e.1.lo e.1.hi) (cut_ends table j lst es))
      (first (is_member e.0 (predecessors table j)) refl (leb-true e.1.lo e.1.hi parts.0))
      (spans-cut es up.1 (begun-rest e es rising early) parts.1)
    where
      first : (b : Bool) → is_member e.0 (predecessors table j) ≡ b → e.1.lo ≤ e.1.hi →
          nat_le (cond b (record { lo = e.1.lo; hi = min e.1.hi lst }) e.1).lo (cond b (record { lo = e.1.lo; hi = min e.1.hi lst }) e.1).hi ≡ true
      first false is order = le-leb e.1.lo e.1.hi order
      first true is order =
          let own : nat_eq e.0 e.0 ≡ true = eq-eqb e.0 e.0 refl in
          let here : low_end (e ∷ es) e.0 ≡ e.1.lo = ap (λ b. option_map_or (λ (s : Interval). s.lo) (cond b (Some e.1) (lookup (nat_eq e.0) es)) 0) own in
          le-leb e.1.lo (min e.1.hi lst) (omega (arith, order, here, early e.0 is))

  -- a limit of the ends is one of the cut ends
  pub up_to-cut : (limit : ℕ) (ends : List (ℕ × Interval)) → list_all (λ e. nat_le e.1.hi limit) ends ≡ true → list_all (λ e. nat_le e.1.hi limit) (cut_ends table j lst ends) ≡ true
  up_to-cut limit [] all = refl
  up_to-cut limit (e ∷ es) all =
      let parts = and_parts (nat_le e.1.hi limit) (list_all (λ e. nat_le e.1.hi limit) es) all in
      and_from (nat_le (cut_end table j lst e).1.hi limit) (list_all (λ e. nat_le e.1.hi limit) (cut_ends table j lst es))
      (at (is_member e.0 (predecessors table j)) (leb-true e.1.hi limit parts.0)) (up_to-cut limit es parts.1)
    where
      at : (b : Bool) → e.1.hi ≤ limit → nat_le (cond b (record { lo = e.1.lo; hi = min e.1.hi lst }) e.1).hi limit ≡ true
      at true h = le-leb (min e.1.hi lst) limit (omega (arith, h))
      at false h = le-leb e.1.hi limit h

-- ---- the jobs that stay last

module _ (table : Table) (set : List ℕ) (ends : List (ℕ × Interval)) (last : List ℕ) (j lst : ℕ) where
  pub is_rising-still_last : is_rising last ≡ true → is_rising (still_last table (with_number j set) ends last j lst) ≡ true
  is_rising-still_last rising =
      is_rising-filter (is_tracked table (with_number j set)) (with_number j (filter (runs_past ends lst) last))
      (is_rising-with_number j (filter (runs_past ends lst) last) (is_rising-filter (runs_past ends lst) last rising))

  -- they are tracked jobs
  pub still_last-tracked : is_within last (keys_of ends) ≡ true → keys_of ends ≡ tracked_jobs table set →
      is_within (still_last table (with_number j set) ends last j lst) (tracked_jobs table (with_number j set)) ≡ true
  still_last-tracked within tracked =
      let p : ℕ → Bool = is_tracked table (with_number j set) in
      list_all-from_members (λ k. is_member k (tracked_jobs table (with_number j set))) (still_last table (with_number j set) ends last j lst) (λ k there.
      let found = is_member-from_filter p (with_number j (filter (runs_past ends lst) last)) k there in
      is_member-filter p (with_number j set) k found.0 (is_member-with_number k j set ∙ among k (j == k) refl (sym (is_member-with_number k j (filter (runs_past ends lst) last)) ∙ found.1)))
    where
      among : (k : ℕ) (b : Bool) → (j == k) ≡ b → ((j == k) || is_member k (filter (runs_past ends lst) last)) ≡ true → ((j == k) || is_member k set) ≡ true
      among k true is there = ap (λ b. b || is_member k set) is
      among k false is whole =
          let there : is_member k (filter (runs_past ends lst) last) ≡ true = ap (λ b. b || is_member k (filter (runs_past ends lst) last)) (sym is) ∙ whole in
          let old = (is_member-from_filter (runs_past ends lst) last k there).1 in
          ap (λ b. b || is_member k set) is
          ∙ (is_member-from_filter (is_tracked table set) set k (ap (is_member k) (sym tracked) ∙ list_all-member (λ i. is_member i (keys_of ends)) last k within old)).1

-- ---- the list with the cut intervals

-- no interval begins later than before
low-ended : (jobs : List ℕ) (t : ℕ) (e : ℕ × Interval) → (ended_by jobs t e).1.lo ≡ e.1.lo
low-ended jobs t e = elim (is_member e.0 jobs) as (λ b. (cond b (record { lo = e.1.lo; hi = min e.1.hi t }) e.1).lo ≡ e.1.lo) [ true ↦ refl | false ↦ refl ]

-- none of these jobs is listed
pub ended-none : (jobs : List ℕ) (t : ℕ) (es : List (ℕ × Interval)) → ((i : ℕ) → is_member i (keys_of es) ≡ true → is_member i jobs ≡ false) → map (ended_by jobs t) es ≡ es
ended-none jobs t [] none = refl
ended-none jobs t (e ∷ es) none =
    let own : is_member e.0 (keys_of (e ∷ es)) ≡ true = is_member-first e.0 e.0 (keys_of es) refl in
    (λ k. (e.0, cond (none e.0 own k) (record { lo = e.1.lo; hi = min e.1.hi t }) e.1) ∷ map (ended_by jobs t) es)
    ∙ ap (λ ds. e ∷ ds) (ended-none jobs t es (λ i there. none i (is_member-rest i e.0 (keys_of es) there)))

pub ended-missing : (j t : ℕ) (es : List (ℕ × Interval)) → is_member j (keys_of es) ≡ false → es ≡ map (ended_by (j ∷ []) t) es
ended-missing j t es out = sym (ended-none (j ∷ []) t es (λ i there. or_from (j == i) false (ne_eqb j i (λ same. false≢true (sym out ∙ ap (λ n. is_member n (keys_of es)) same ∙ there))) refl))

-- the one item of the job
pub ended-at : (j t : ℕ) (es : List (ℕ × Interval)) (i : ℕ) (e : ℕ × Interval) → is_rising (keys_of es) ≡ true → slice_get (keys_of es) i ≡ Some j → slice_get es i ≡ Some e →
    slice_set es i (slice_index (keys_of es) i, record { lo = e.1.lo; hi = min e.1.hi t }) ≡ map (ended_by (j ∷ []) t) es
ended-at j t [] i e rising here item = cc
ended-at j t (d ∷ ds) zero e rising here item =
    let up = and_parts (list_all (nat_lt d.0) (keys_of ds)) (is_rising (keys_of ds)) rising in
    let own : d.0 ≡ j = cc in
    let same : d ≡ e = cc in
    let yes : is_member d.0 (j ∷ []) ≡ true = is_member-first d.0 j [] (sym own) in
    let rest : ds ≡ map (ended_by (j ∷ []) t) ds = ended-missing j t ds (ap (λ n. is_member n (keys_of ds)) (sym own) ∙ above-outside d.0 (keys_of ds) up.0) in
    (λ k. (d.0, record { lo = (sym same k).1.lo; hi = min (sym same k).1.hi t }) ∷ rest k)
    ∙ (λ k. (d.0, cond (sym yes k) (record { lo = d.1.lo; hi = min d.1.hi t }) d.1) ∷ map (ended_by (j ∷ []) t) ds)
ended-at j t (d ∷ ds) (suc i) e rising here item =
    let up = and_parts (list_all (nat_lt d.0) (keys_of ds)) (is_rising (keys_of ds)) rising in
    let later : d.0 < j = ltb-true d.0 j (list_all-member (nat_lt d.0) (keys_of ds) j up.0 (listed (keys_of ds) i here)) in
    let no : is_member d.0 (j ∷ []) ≡ false = or_from (j == d.0) false (ne_eqb j d.0 (λ same. omega (arith, same, later))) refl in
    (λ k. (d.0, cond (sym no k) (record { lo = d.1.lo; hi = min d.1.hi t }) d.1) ∷ ended-at j t ds i e up.1 here item k)
  where
    listed : (ks : List ℕ) (i : ℕ) → slice_get ks i ≡ Some j → is_member j ks ≡ true
    listed [] i here = cc
    listed (k ∷ ks) zero here = let own : k ≡ j = cc in is_member-first j k ks own
    listed (k ∷ ks) (suc i) here = is_member-rest j k ks (listed ks i here)

pub ended-start : (t : ℕ) (es : List (ℕ × Interval)) → es ≡ map (ended_by [] t) es
ended-start t [] = refl
ended-start t (e ∷ es) = ap (λ ds. e ∷ ds) (ended-start t es)

-- one job more
pub ended-more : (jobs : List ℕ) (j t : ℕ) (es : List (ℕ × Interval)) → map (ended_by (j ∷ []) t) (map (ended_by jobs t) es) ≡ map (ended_by (jobs ++ j ∷ []) t) es
ended-more jobs j t [] = refl
ended-more jobs j t (e ∷ es) = λ k. (e.0, one k) ∷ ended-more jobs j t es k
  where
    least : (x y : ℕ) → min (min x y) y ≡ min x y
    least x y = omega arith

    at : (a b : Bool) → cond (a || false) (record { lo = (cond b (record { lo = e.1.lo; hi = min e.1.hi t }) e.1).lo; hi = min (cond b (record { lo = e.1.lo; hi = min e.1.hi t }) e.1).hi t }) (cond b (record { lo = e.1.lo; hi = min e.1.hi t }) e.1)
        ≡ cond (a || b) (record { lo = e.1.lo; hi = min e.1.hi t }) e.1
    at true true = λ k. record { lo = e.1.lo; hi = least e.1.hi t k }
    at true false = refl
    at false true = refl
    at false false = refl

    one : (ended_by (j ∷ []) t (ended_by jobs t e)).1 ≡ (ended_by (jobs ++ j ∷ []) t e).1
    one = at (j == e.0) (is_member e.0 jobs) ∙ ap (λ b. cond b (record { lo = e.1.lo; hi = min e.1.hi t }) e.1) (sym (is_member-push e.0 j jobs))

-- who may end by then may do so once others are cut
pub begun-ended : (jobs : List ℕ) (t j : ℕ) (es : List (ℕ × Interval)) → All (λ e. e.0 ≡ j → e.1.lo ≤ t) es → All (λ e. e.0 ≡ j → e.1.lo ≤ t) (map (ended_by jobs t) es)
begun-ended jobs t j es all =
    All-map (λ e. e.0 ≡ j → e.1.lo ≤ t) (ended_by jobs t) es
    (All-weaker (λ e. e.0 ≡ j → e.1.lo ≤ t) (λ e. (ended_by jobs t e).0 ≡ j → (ended_by jobs t e).1.lo ≤ t) (λ e h own. omega (arith, low-ended jobs t e, h own)) es all)

-- ---- cut before a step or after it

module _ (table : Table) (j lst : ℕ) (own : is_member j (predecessors table j) ≡ false) where
  cut_list : List (ℕ × Interval) → List (ℕ × Interval)
  cut_list = cut_ends table j lst

  insert-cut : (es : List (ℕ × Interval)) (v : Interval) → cut_ends table j lst (insert_entry nat_cmp es j v) ≡ insert_entry nat_cmp (cut_ends table j lst es) j v
  insert-cut [] v = λ k. (j, cond (own k) (record { lo = v.lo; hi = min v.hi lst }) v) ∷ []
  insert-cut (e ∷ es) v = at (nat_cmp j e.0) (ranked j e.0 (nat_cmp j e.0) refl) (insert-cut es v)
    where
      new : (k : ℕ) → k ≡ j → cut_end table j lst (k, v) ≡ (k, v)
      new k same = λ i. (k, cond ((ap (λ n. is_member n (predecessors table j)) same ∙ own) i) (record { lo = v.lo; hi = min v.hi lst }) v)

      at : (o : Ordering) → MatchOrdering o (j < e.0) (j ≡ e.0) (e.0 < j) → cut_ends table j lst (insert_entry nat_cmp es j v) ≡ insert_entry nat_cmp (cut_ends table j lst es) j v →
          cut_ends table j lst (match_ordering o ((j, v) ∷ e ∷ es) ((e.0, v) ∷ es) (e ∷ insert_entry nat_cmp es j v))
          ≡ match_ordering o ((j, v) ∷ cut_end table j lst e ∷ cut_ends table j lst es) ((e.0, v) ∷ cut_ends table j lst es) (cut_end table j lst e ∷ insert_entry nat_cmp (cut_ends table j lst es) j v)
      at Less is rest = λ k. new j refl k ∷ cut_end table j lst e ∷ cut_ends table j lst es
      at Equal is rest = λ k. new e.0 (sym is) k ∷ cut_ends table j lst es
      at Greater is rest = λ k. cut_end table j lst e ∷ rest k

  filter-cut : (p : ℕ → Bool) (es : List (ℕ × Interval)) → cut_ends table j lst (filter (λ e. p e.0) es) ≡ filter (λ e. p e.0) (cut_ends table j lst es)
  filter-cut p [] = refl
  filter-cut p (e ∷ es) = at (p e.0) (filter-cut p es)
    where
      at : (b : Bool) → cut_ends table j lst (filter (λ e. p e.0) es) ≡ filter (λ e. p e.0) (cut_ends table j lst es) →
          cut_ends table j lst (cond b (e ∷ filter (λ e. p e.0) es) (filter (λ e. p e.0) es)) ≡ cond b (cut_end table j lst e ∷ filter (λ e. p e.0) (cut_ends table j lst es)) (filter (λ e. p e.0) (cut_ends table j lst es))
      at true rest = ap (λ ds. cut_end table j lst e ∷ ds) rest
      at false rest = rest

  pub still_tracked-cut : (set : List ℕ) (es : List (ℕ × Interval)) (v : Interval) →
      cut_ends table j lst (still_tracked table set (insert_entry nat_cmp es j v)) ≡ still_tracked table set (insert_entry nat_cmp (cut_ends table j lst es) j v)
  still_tracked-cut set es v = filter-cut (is_tracked table set) (insert_entry nat_cmp es j v) ∙ ap (still_tracked table set) (insert-cut es v)

  -- who may end by then may do so among the ends that a step keeps
  pub begun-kept : (set : List ℕ) (es : List (ℕ × Interval)) (v : Interval) → All (λ e. IsTrue (is_member e.0 (predecessors table j)) → e.1.lo ≤ lst) es →
      All (λ e. IsTrue (is_member e.0 (predecessors table j)) → e.1.lo ≤ lst) (still_tracked table set (insert_entry nat_cmp es j v))
  begun-kept set es v all =
      let P = λ (e : ℕ × Interval). is_member e.0 (predecessors table j) ≡ true → e.1.lo ≤ lst in
      All-filter (λ e. is_tracked table set e.0) P (insert_entry nat_cmp es j v) (All-insert_entry P es j v all (λ there. absurd (false≢true (sym own ∙ there))))

-- what holds of all ends holds of the one at a place
pub all-begun : (table : Table) (j lst : ℕ) (ends : List (ℕ × Interval)) → is_rising (keys_of ends) ≡ true → ((i : ℕ) → is_member i (predecessors table j) ≡ true → low_end ends i ≤ lst) →
    (k : ℕ) (d : ℕ × Interval) → k < length ends → is_member (slice_index_or ends k d).0 (predecessors table j) ≡ true → (slice_index_or ends k d).1.lo ≤ lst
all-begun table j lst [] rising early k d below there = absurd (omega (arith, below))
all-begun table j lst (e ∷ es) rising early zero d below there =
    let own : nat_eq e.0 e.0 ≡ true = eq-eqb e.0 e.0 refl in
    let here : low_end (e ∷ es) e.0 ≡ e.1.lo = ap (λ b. option_map_or (λ (s : Interval). s.lo) (cond b (Some e.1) (lookup (nat_eq e.0) es)) 0) own in
    omega (arith, here, early e.0 there)
all-begun table j lst (e ∷ es) rising early (suc k) d below there =
    let up = and_parts (list_all (nat_lt e.0) (keys_of es)) (is_rising (keys_of es)) rising in
    all-begun table j lst es up.1 (λ i there. begun-rest table j lst e es rising early i there) k d (omega (arith, below)) there

-- the first moment of a listed job
pub low_end-at : (ends : List (ℕ × Interval)) (i : ℕ) (e : ℕ × Interval) → is_rising (keys_of ends) ≡ true → slice_get ends i ≡ Some e → low_end ends e.0 ≡ e.1.lo
low_end-at [] i e rising here = cc
low_end-at (d ∷ ds) zero e rising here =
    let same : d ≡ e = cc in
    ap (λ b. option_map_or (λ (s : Interval). s.lo) (cond b (Some d.1) (lookup (nat_eq e.0) ds)) 0) (eq-eqb e.0 d.0 (ap (λ (x : ℕ × Interval). x.0) (sym same))) ∙ ap (λ (x : ℕ × Interval). x.1.lo) same
low_end-at (d ∷ ds) (suc i) e rising here =
    let up = and_parts (list_all (nat_lt d.0) (keys_of ds)) (is_rising (keys_of ds)) rising in
    let later : d.0 < e.0 = ltb-true d.0 e.0 (list_all-member (nat_lt d.0) (keys_of ds) e.0 up.0 (listed_at ds i e here)) in
    ap (λ b. option_map_or (λ (s : Interval). s.lo) (cond b (Some d.1) (lookup (nat_eq e.0) ds)) 0) (ne_eqb e.0 d.0 (λ same. omega (arith, same, later))) ∙ low_end-at ds i e up.1 here
  where
    listed_at : (es : List (ℕ × Interval)) (i : ℕ) (e : ℕ × Interval) → slice_get es i ≡ Some e → is_member e.0 (keys_of es) ≡ true
    listed_at [] i e here = cc
    listed_at (d ∷ ds) zero e here = let same : d ≡ e = cc in is_member-first e.0 d.0 (keys_of ds) (ap (λ (x : ℕ × Interval). x.0) same)
    listed_at (d ∷ ds) (suc i) e here = is_member-rest e.0 d.0 (keys_of ds) (listed_at ds i e here)

-- the listed jobs are jobs of the table
pub listed-below : (table : Table) (set : Subset) (ends : List (ℕ × Interval)) → IsSubset set → keys_of ends ≡ tracked_jobs table set.members → All (λ e. e.0 < set.size) ends
listed-below table set ends is_set tracked k d below =
    let j : ℕ = (get_or ends k d).0 in
    let count : length (keys_of ends) ≡ length ends = length-map ends (λ e. e.0) in
    let is : get_or (keys_of ends) k 0 ≡ j = get_or-map (λ e. e.0) ends k d 0 below in
    let there : is_member j (keys_of ends) ≡ true = ap (λ i. is_member i (keys_of ends)) (sym is) ∙ is_member-at (keys_of ends) k 0 (omega (arith, below, count)) in
    let member : is_member j set.members ≡ true = (is_member-from_filter (is_tracked table set.members) set.members j (ap (is_member j) (sym tracked) ∙ there)).1 in
    ltb-true j set.size (list_all-member (λ i. nat_lt i set.size) set.members j is_set.in_range member)

-- ---- a job found in the list

pub listed-within : (es : List (ℕ × Interval)) (i j : ℕ) → slice_get (keys_of es) i ≡ Some j → i < length es
listed-within [] i j here = cc
listed-within (e ∷ es) zero j here = omega arith
listed-within (e ∷ es) (suc i) j here = omega (arith, listed-within es i j here)

pub key-listed : (es : List (ℕ × Interval)) (i j : ℕ) (e : ℕ × Interval) → slice_get (keys_of es) i ≡ Some j → slice_get es i ≡ Some e → e.0 ≡ j
key-listed [] i j e here item = cc
key-listed (d ∷ ds) zero j e here item = let same : d ≡ e = cc in let own : d.0 ≡ j = cc in ap (λ (x : ℕ × Interval). x.0) (sym same) ∙ own
key-listed (d ∷ ds) (suc i) j e here item = key-listed ds i j e here item

-- its interval may end by the moment
pub begun-at : (es : List (ℕ × Interval)) (i j t : ℕ) (e : ℕ × Interval) → slice_get (keys_of es) i ≡ Some j → slice_get es i ≡ Some e → All (λ e. e.0 ≡ j → e.1.lo ≤ t) es → e.1.lo ≤ t
begun-at es i j t e here item all =
    let P = λ (e : ℕ × Interval). e.0 ≡ j → e.1.lo ≤ t in
    subst P (get_or_from_slice_get es i e e item) (all i e (listed-within es i j here)) (key-listed es i j e here item)

-- the interval of a predecessor, where the intervals of some jobs are cut, may end by the moment
pub begun-predecessor : (table : Table) (j p t : ℕ) (jobs : List ℕ) (es : List (ℕ × Interval)) → is_member p (predecessors table j) ≡ true →
    All (λ e. IsTrue (is_member e.0 (predecessors table j)) → e.1.lo ≤ t) es → All (λ e. e.0 ≡ p → e.1.lo ≤ t) (map (ended_by jobs t) es)
begun-predecessor table j p t jobs es there all =
    begun-ended jobs t p es
    (All-weaker (λ e. is_member e.0 (predecessors table j) ≡ true → e.1.lo ≤ t) (λ e. e.0 ≡ p → e.1.lo ≤ t) (λ e h own. h (ap (λ n. is_member n (predecessors table j)) own ∙ there)) es all)

-- what each item has, at a place
pub item-has : (P : ℕ × Interval → Type 0) (es : List (ℕ × Interval)) (i : ℕ) (e : ℕ × Interval) → slice_get es i ≡ Some e → All P es → P e
item-has P es i e here all = subst P (get_or_from_slice_get es i e e here) (all i e (slice_get_within es i e here))

-- in a rising list the job comes once
pub once-listed : (es : List (ℕ × Interval)) (i : ℕ) (e : ℕ × Interval) → is_rising (keys_of es) ≡ true → slice_get es i ≡ Some e → is_member e.0 (keys_of (drop (suc i) es)) ≡ false
once-listed [] i e rising here = cc
once-listed (d ∷ ds) zero e rising here =
    let same : d ≡ e = cc in
    ap (λ (x : ℕ × Interval). is_member x.0 (keys_of ds)) (sym same) ∙ above-outside d.0 (keys_of ds) (and_parts (list_all (nat_lt d.0) (keys_of ds)) (is_rising (keys_of ds)) rising).0
once-listed (d ∷ ds) (suc i) e rising here = once-listed ds i e (and_parts (list_all (nat_lt d.0) (keys_of ds)) (is_rising (keys_of ds)) rising).1 here

-- the key at a place
pub key-at : (es : List (ℕ × Interval)) (i : ℕ) (e : ℕ × Interval) → slice_get es i ≡ Some e → (i < length (keys_of es)) × (get_or (keys_of es) i 0 ≡ e.0)
key-at [] i e here = cc
key-at (d ∷ ds) zero e here = let same : d ≡ e = cc in (omega arith, ap (λ (x : ℕ × Interval). x.0) same)
key-at (d ∷ ds) (suc i) e here = let rest = key-at ds i e here in (omega (arith, rest.0), rest.1)
