-- The next state is a state, and its numbers are greater by one job's cost at most.
use Rattle.std.proofs.Common.{◌≡◌, ℕ, suc, ◌+◌, ◌<◌, ◌≤◌, Bool, true, false, cond, List, [], ◌∷◌, length, filter, refl, ap, sym, ◌∙◌, arith, Less, Equal, Greater}
use Rattle.std.specs.Prelude.{nat_le, slice_index, Some}
use Rattle.std.specs.List.{list_all}
use Rattle.std.specs.Map.{keys_of}
use Rattle.std.specs.Ordering.{nat_cmp, match_ordering}
use Rattle.std.specs.BTreeMap.{insert_entry}
use Rattle.std.proofs.lemmas.Bool.{and_parts, and_from, leb-true, le-leb, false≢true, false_from_ne_true}
use Rattle.std.proofs.lemmas.List.Elements.{All-get_or}
use Rattle.job_sets.specs.Subset.{is_member, is_rising, is_within, with_number}
use Rattle.job_sets.proofs.Filters.{is_rising-filter}
use Rattle.sag_time.specs.Sorted.{is_sorted, cap_first}
use Rattle.sag_time.proofs.CapFirst.{is_sorted-cap_first, pointwise-cap_first, all-cap_first}
use Rattle.start_windows.specs.Ends.{low_end}
use Rattle.sag_step.proofs.CutEnds.{keys_of-cut, spans-cut, up_to-cut, is_rising-still_last, still_last-tracked}
use Rattle.job_sets.proofs.Members.{is_member-from_filter, list_all-member}
use Rattle.job_model.specs.declared.limits.TheConstants.{MOST_ARRIVAL, MOST_COST}
use Rattle.job_model.specs.Table.{Table, IsTable, IsJob, job_at, no_job, predecessors}
use Rattle.sag_time.specs.Interval.{Interval}
use Rattle.sag_time.proofs.Limits.{up_to, all-after_start, all-weaker}
use Rattle.sag_time.proofs.SortedLists.{is_sorted-after_start, length-after_start, pointwise-after_start}
use Rattle.start_windows.specs.declared.StartWindow.{StartWindow}
use Rattle.sag_step.specs.declared.TheConstants.{MOST_TIME, MOST_STEP_TIME}
use Rattle.sag_step.specs.State.{SystemState, state_window, first_core, is_tracked, tracked_jobs}
use Rattle.sag_step.specs.Shape.{IsState, IsUpTo}
use Rattle.sag_step.specs.Next.{finish_interval, last_predecessors, cut_ends, still_last, next}
use Rattle.sag_step.specs.Laws as law
use Rattle.job_sets.proofs.Additions.{IsSubset-with_number, few_members, length-with_number}
use Rattle.sag_step.proofs.TrackedEnds.{keys_of-still_tracked}
use Rattle.start_windows.proofs.WindowFacts.{IsWindow, IsWindow-from, certain_start-le}

-- ---- a test of each item

module _ {X : Type 0} (test : X → Bool) where
  pub all-filter : (p : X → Bool) (xs : List X) → list_all test xs ≡ true → list_all test (filter p xs) ≡ true
  all-filter p [] all = refl
  all-filter p (x ∷ xs) all =
      let parts = and_parts (test x) (list_all test xs) all in
      let rest = all-filter p xs parts.1 in
      elim (p x) as (λ b. list_all test (cond b (x ∷ filter p xs) (filter p xs)) ≡ true) [
        | true ↦ and_from (test x) (list_all test (filter p xs)) parts.0 rest
        | false ↦ rest
      ]

-- a test of the interval alone
pub all-insert_entry : (test : Interval → Bool) (es : List (ℕ × Interval)) (j : ℕ) (v : Interval) → list_all (λ e. test e.1) es ≡ true → test v ≡ true →
    list_all (λ e. test e.1) (insert_entry nat_cmp es j v) ≡ true
all-insert_entry test [] j v all new = and_from (test v) true new refl
all-insert_entry test (e ∷ es) j v all new =
    let parts = and_parts (test e.1) (list_all (λ e. test e.1) es) all in
    let rest = all-insert_entry test es j v parts.1 new in
    elim (nat_cmp j e.0) as (λ o. list_all (λ e. test e.1) (match_ordering o ((j, v) ∷ e ∷ es) ((e.0, v) ∷ es) (e ∷ insert_entry nat_cmp es j v)) ≡ true) [
      | Less ↦ and_from (test v) (list_all (λ e. test e.1) (e ∷ es)) new all
      | Equal ↦ and_from (test v) (list_all (λ e. test e.1) es) new parts.1
      | Greater ↦ and_from (test e.1) (list_all (λ e. test e.1) (insert_entry nat_cmp es j v)) parts.0 rest
    ]

abbrev pub ends_up_to : ℕ → ℕ × Interval → Bool
ends_up_to limit e = nat_le e.1.hi limit

pub ends-weaker : (limit wider : ℕ) (es : List (ℕ × Interval)) → limit ≤ wider → list_all (ends_up_to limit) es ≡ true → list_all (ends_up_to wider) es ≡ true
ends-weaker limit wider [] more all = refl
ends-weaker limit wider (e ∷ es) more all =
    let parts = and_parts (nat_le e.1.hi limit) (list_all (ends_up_to limit) es) all in
    and_from (nat_le e.1.hi wider) (list_all (ends_up_to wider) es) (le-leb e.1.hi wider (omega (arith, more, leb-true e.1.hi limit parts.0))) (ends-weaker limit wider es more parts.1)

pub IsUpTo-weaker : (limit wider : ℕ) (state : SystemState) → limit ≤ wider → IsUpTo limit state → IsUpTo wider state
IsUpTo-weaker limit wider state more within = record {
  low = all-weaker limit wider state.low more within.low;
  high = all-weaker limit wider state.high more within.high;
  ends = ends-weaker limit wider state.ends more within.ends;
}

-- ---- the next state

module _ (table : Table) (state : SystemState) (j : ℕ) (window : StartWindow) (is_table : IsTable table) (eligible : state_window table state j ≡ Some window) where
  pub is_window : IsWindow table state.set.members state.ends (first_core state) j window
  is_window = IsWindow-from table state.set.members state.ends (first_core state) j window eligible

  pub own_job : IsJob (job_at table j)
  own_job = All-get_or IsJob table.jobs j no_job is_window.is_job is_table.jobs

  abbrev pub finish : Interval
  finish = finish_interval table j window

  pub finish_order : finish.lo ≤ finish.hi
  finish_order = omega (arith, is_window.in_order, own_job.costs)

  module _ (m : ℕ) (is_state : IsState table m state) where
    some_low : 0 < length state.low
    some_low = omega (arith, is_state.some_core, is_state.shape.low_count)

    abbrev capped : List ℕ
    capped = cap_first state.low (last_predecessors table state.last.members j) window.lst state.high

    capped_sorted : is_sorted capped ≡ true
    capped_sorted =
        is_sorted-cap_first state.low (last_predecessors table state.last.members j) window.lst state.high is_state.shape.low_sorted is_state.shape.high_sorted is_state.shape.in_order

    cut_tracked : keys_of (cut_ends table j window.lst state.ends) ≡ tracked_jobs table state.set.members
    cut_tracked = keys_of-cut table j window.lst state.ends ∙ is_state.shape.tracked

    -- a predecessor may have finished by the latest start
    pub begun : (i : ℕ) → is_member i (predecessors table j) ≡ true → low_end state.ends i ≤ window.lst
    begun i there = omega (arith, is_window.after_ends i there, is_window.in_order)

    pub ends_rise : is_rising (keys_of state.ends) ≡ true
    ends_rise = ap is_rising is_state.shape.tracked ∙ is_rising-filter (is_tracked table state.set.members) state.set.members is_state.set.rising

    cut_spans : list_all (λ e. nat_le e.1.lo e.1.hi) (cut_ends table j window.lst state.ends) ≡ true
    cut_spans = spans-cut table j window.lst state.ends ends_rise begun is_state.shape.spans

    pub IsState-next : IsState table m (next table state j window)
    IsState-next = record {
      some_core = is_state.some_core;
      of_table = is_state.of_table;
      set = IsSubset-with_number state.set j (omega (arith, is_window.is_job, is_state.of_table)) is_state.set;
      last_size = is_state.last_size;
      shape = record {
        low_count = length-after_start window.est finish.lo state.low some_low ∙ is_state.shape.low_count;
        in_order =
            pointwise-after_start window.est window.est finish.lo finish.hi state.low capped (omega arith) finish_order
            is_state.shape.low_sorted capped_sorted (pointwise-cap_first state.low (last_predecessors table state.last.members j) window.lst state.high is_state.shape.in_order);
        low_sorted = is_sorted-after_start window.est finish.lo state.low is_state.shape.low_sorted;
        high_sorted = is_sorted-after_start window.est finish.hi capped capped_sorted;
        tracked = keys_of-still_tracked table state.set.members j (cut_ends table j window.lst state.ends) finish is_state.set.rising cut_tracked;
        spans =
            all-filter (λ (e : ℕ × Interval). nat_le e.1.lo e.1.hi) (λ e. is_tracked table (with_number j state.set.members) e.0) (insert_entry nat_cmp (cut_ends table j window.lst state.ends) j finish)
            (all-insert_entry (λ v. nat_le v.lo v.hi) (cut_ends table j window.lst state.ends) j finish cut_spans (le-leb finish.lo finish.hi finish_order));
        last_rises = is_rising-still_last table state.set.members state.ends state.last.members j window.lst is_state.shape.last_rises;
        last_tracked =
            ap (is_within (still_last table (with_number j state.set.members) state.ends state.last.members j window.lst))
            (keys_of-still_tracked table state.set.members j (cut_ends table j window.lst state.ends) finish is_state.set.rising cut_tracked)
            ∙ still_last-tracked table state.set.members state.ends state.last.members j window.lst is_state.shape.last_tracked is_state.shape.tracked;
      };
    }

  module _ (limit : ℕ) (arrivals : MOST_ARRIVAL ≤ limit) (within : IsUpTo limit state) where
    first-le : (high : List ℕ) → list_all (up_to limit) high ≡ true → slice_index high 0 ≤ limit
    first-le [] all = omega arith
    first-le (x ∷ xs) all = leb-true x limit (and_parts (nat_le x limit) (list_all (up_to limit) xs) all).0

    lst-le : window.lst ≤ limit
    lst-le =
        let certain = certain_start-le table is_table state.set.members state.ends (first_core state) limit arrivals (first-le state.high within.high) within.ends in
        omega (arith, certain, is_window.certain)

    finish-le : finish.hi ≤ limit + MOST_COST
    finish-le = omega (arith, lst-le, own_job.cost_limit)

    pub IsUpTo-next : IsUpTo (limit + MOST_COST) (next table state j window)
    IsUpTo-next =
        let est : window.est ≤ limit = omega (arith, lst-le, is_window.in_order) in
        record {
          low = all-after_start limit MOST_COST window.est finish.lo state.low est (omega (arith, finish_order, finish-le)) within.low;
          high =
              all-after_start limit MOST_COST window.est finish.hi (cap_first state.low (last_predecessors table state.last.members j) window.lst state.high) est finish-le
              (all-cap_first limit state.low (last_predecessors table state.last.members j) window.lst state.high within.low within.high);
          ends =
              all-filter (ends_up_to (limit + MOST_COST)) (λ e. is_tracked table (with_number j state.set.members) e.0) (insert_entry nat_cmp (cut_ends table j window.lst state.ends) j finish)
              (all-insert_entry (λ v. nat_le v.hi (limit + MOST_COST)) (cut_ends table j window.lst state.ends) j finish
              (ends-weaker limit (limit + MOST_COST) (cut_ends table j window.lst state.ends) (omega arith) (up_to-cut table j window.lst limit state.ends within.ends)) (le-leb finish.hi (limit + MOST_COST) finish-le));
        }

-- what bounds the sums of a step
pub record HasRoom (table : Table) (j : ℕ) (window : StartWindow) (limit : ℕ) : Type 0 where
  pub order : window.est ≤ window.lst
  pub costs : (job_at table j).cmin ≤ (job_at table j).cmax
  pub latest : window.lst + (job_at table j).cmax ≤ limit + MOST_COST

pub HasRoom-from : (table : Table) (state : SystemState) (j : ℕ) (window : StartWindow) (limit : ℕ) → IsTable table → IsUpTo limit state → MOST_ARRIVAL ≤ limit →
    state_window table state j ≡ Some window → HasRoom table j window limit
HasRoom-from table state j window limit is_table within arrivals eligible = record {
  order = (is_window table state j window is_table eligible).in_order;
  costs = (own_job table state j window is_table eligible).costs;
  latest = finish-le table state j window is_table eligible limit arrivals within;
}

-- a job that may be the next to start is not listed
pub job-unlisted : (table : Table) (m : ℕ) (state : SystemState) (j : ℕ) (window : StartWindow) → IsState table m state → state_window table state j ≡ Some window →
    is_member j (keys_of state.ends) ≡ false
job-unlisted table m state j window is_state eligible =
    let outside = (IsWindow-from table state.set.members state.ends (first_core state) j window eligible).outside in
    ap (is_member j) is_state.shape.tracked
    ∙ false_from_ne_true (is_member j (tracked_jobs table state.set.members)) (λ there.
    false≢true (sym outside ∙ (is_member-from_filter (is_tracked table state.set.members) state.set.members j there).1))

-- it is none of its own predecessors, which are dispatched
pub own-predecessor : (table : Table) (state : SystemState) (j : ℕ) (window : StartWindow) → state_window table state j ≡ Some window → is_member j (predecessors table j) ≡ false
own-predecessor table state j window eligible =
    let is = IsWindow-from table state.set.members state.ends (first_core state) j window eligible in
    false_from_ne_true (is_member j (predecessors table j)) (λ there. false≢true (sym is.outside ∙ list_all-member (λ i. is_member i state.set.members) (predecessors table j) j is.waited there))

length-filter-le : (p : ℕ → Bool) (xs : List ℕ) → length (filter p xs) ≤ length xs
length-filter-le p [] = omega arith
length-filter-le p (x ∷ xs) =
    let rest = length-filter-le p xs in
    elim (p x) as (λ b. length (cond b (x ∷ filter p xs) (filter p xs)) ≤ suc (length xs)) [ true ↦ omega (arith, rest) | false ↦ omega (arith, rest) ]

pub scratch_has_room : law.ScratchHasRoom
scratch_has_room table m state j window is_state eligible =
    let is = IsWindow-from table state.set.members state.ends (first_core state) j window eligible in
    let below : j < state.set.size = omega (arith, is.is_job, is_state.of_table) in
    let grown = few_members (record { size = state.set.size; members = with_number j state.set.members }) (IsSubset-with_number state.set j below is_state.set) in
    let keys = ap length is_state.shape.tracked in
    omega (arith, grown, length-with_number j state.set.members is.outside, is_state.of_table, keys, length-keys state.ends, length-filter-le (is_tracked table state.set.members) state.set.members)
  where
    length-keys : (es : List (ℕ × Interval)) → length (keys_of es) ≡ length es
    length-keys [] = refl
    length-keys (e ∷ es) = ap suc (length-keys es)

pub next_is_state : law.NextIsState
next_is_state table m state j window is_table is_state eligible = IsState-next table state j window is_table eligible m is_state

pub next_is_up_to : law.NextIsUpTo
next_is_up_to table state j window limit is_table within arrivals eligible = IsUpTo-next table state j window is_table eligible limit arrivals within

pub finish_is_up_to : law.FinishIsUpTo
finish_is_up_to table state j window limit is_table within arrivals eligible = finish-le table state j window is_table eligible limit arrivals within

pub next_is_shaped : law.NextIsShaped
next_is_shaped table m state j window is_table is_state within eligible = record {
  is_state = next_is_state table m state j window is_table is_state eligible;
  in_limit =
      IsUpTo-weaker (MOST_STEP_TIME + MOST_COST) MOST_TIME (next table state j window) (omega arith)
      (next_is_up_to table state j window MOST_STEP_TIME is_table within (omega arith) eligible);
}
