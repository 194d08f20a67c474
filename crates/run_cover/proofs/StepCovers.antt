-- The step by the next job covers one job more.
use Rattle.std.proofs.Common.{◌≡◌, ◌≢◌, ℕ, ◌+◌, ◌<◌, ◌≤◌, true, List, [], ◌∷◌, ◌++◌, length, filter, refl, ap, arith, ⊎_elim, sym, ◌∙◌, max, subst, IsSomeAnd}
use Rattle.std.specs.Prelude.{IsTrue, nat_le, slice_index, ◌==◌}
use Rattle.std.specs.Ordering.{nat_cmp}
use Rattle.std.specs.BTreeMap.{insert_entry}
use Rattle.std.specs.Cmp.Lexicographic.{as_long}
use Rattle.std.proofs.lemmas.Bool.{eqb-true, and_from, le-leb, ltb-true, or_cases}
use Rattle.std.proofs.lemmas.List.{take_more}
use Rattle.std.proofs.lemmas.List.Sums.{length-filter}
use Rattle.job_sets.specs.Subset.{is_member, with_number}
use Rattle.job_sets.proofs.Additions.{is_member-with_number}
use Rattle.job_sets.proofs.Members.{is_member-first, is_member-push, is_member-from_filter}
use Rattle.job_model.specs.Table.{Table, predecessors}
use Rattle.sag_time.specs.Interval.{Interval, holds}
use Rattle.sag_time.specs.Sorted.{cap_first}
use Rattle.sag_time.proofs.CapFirst.{length-cap_first, is_sorted-cap_first}
use Rattle.run_meaning.specs.declared.places.Place.{Place}
use Rattle.run_meaning.specs.Ready.{start_of, core_of, finish_of}
use Rattle.run_meaning.specs.Order.{dispatch_order}
use Rattle.run_meaning.proofs.OrderLaws.{length-dispatch_order}
use Rattle.run_meaning.proofs.StartsAgree.{cost_positive}
use Rattle.start_windows.specs.declared.StartWindow.{StartWindow}
use Rattle.start_windows.specs.Ends.{low_end}
use Rattle.sag_step.specs.State.{SystemState, is_tracked}
use Rattle.sag_step.specs.Shape.{HasShape}
use Rattle.sag_step.proofs.ListsOfEnds.{All-insert_entry}
use Rattle.sag_step.specs.Next.{next, finish_interval, cut_ends, last_predecessors, runs_past}
use Rattle.run_cover.specs.Covers.{prefix, core_end, cores_where, last_start}
use Rattle.run_cover.specs.Laws.{StepsCover, IsStepOf}
use Rattle.run_cover.proofs.CoreEnds.{core_end-le, le-core_end, core_end-other, last_start-push}
use Rattle.run_cover.proofs.CoversList.{CoversList, list-from_covers, covers-from_list, members_more}
use Rattle.run_cover.proofs.FinishTimes.{AllHold, AllHold-cut, All-still_tracked, low_end-le}
use Rattle.run_cover.proofs.NextInOrder.{next_in_order}
use Rattle.run_cover.proofs.NextJob.{IsRun, IsNextJob, least_cost, most_cost, core_idle, own_core_idle, last-le, predecessor_finished}
use Rattle.run_cover.proofs.Pigeons.{distinct_cores, distinct-filter, distinct_predecessors}
use Rattle.run_cover.proofs.StepCounts.{AreCertain, ArePossible, certain-cap_first, certain-step, possible-step}
use Rattle.run_cover.proofs.WiderCovers.{wider_covers}
use Rattle.run_cover.proofs.WindowHolds.{window_of_next, window_holds}

-- ---- the state after the start of job j, by any window that holds the start

module _ {table : Table} {m : ℕ} {scenario : List (ℕ × ℕ)} {schedule : List Place} (run : IsRun table m scenario schedule)
    {jobs : List ℕ} {j : ℕ} (is_next : IsNextJob table schedule jobs j)
    {state : SystemState} (shape : HasShape table m state) (covers : CoversList m scenario schedule jobs state)
    (w : StartWindow) (early : w.est ≤ start_of schedule j) (late : start_of schedule j ≤ w.lst) where
  abbrev more : List ℕ
  more = jobs ++ j ∷ []

  abbrev finish : Interval
  finish = finish_interval table j w

  abbrev on_core : ℕ
  on_core = core_of schedule j

  is_core : on_core < m
  is_core = run.legal.on_cores j is_next.is_job

  not_sooner : finish.lo ≤ finish_of scenario schedule j
  not_sooner = omega (arith, early, least_cost run is_next)

  not_later : finish_of scenario schedule j ≤ finish.hi
  not_later = omega (arith, late, most_cost run is_next)

  by_end : core_end scenario schedule more on_core ≤ finish.hi
  by_end = core_end-le scenario schedule more on_core finish.hi (λ i there same_core. ⊎_elim
      (λ (here : (j == i) ≡ true). omega (arith, ap (finish_of scenario schedule) (eqb-true j i here), not_later))
      (λ (old : is_member i jobs ≡ true). omega (arith, core_idle run is_next i old same_core, late))
      (or_cases (j == i) (is_member i jobs) (sym (is_member-push i j jobs) ∙ there)))

  from_end : finish.lo ≤ core_end scenario schedule more on_core
  from_end =
      let there : is_member j more ≡ true = is_member-push j j jobs ∙ is_member-first j j jobs refl in
      omega (arith, le-core_end scenario schedule more on_core j there refl, not_sooner)

  -- job j is the last on its core
  own_last : finish_of scenario schedule j ≡ core_end scenario schedule more on_core
  own_last =
      let there : is_member j more ≡ true = is_member-push j j jobs ∙ is_member-first j j jobs refl in
      let most : core_end scenario schedule more on_core ≤ finish_of scenario schedule j =
      core_end-le scenario schedule more on_core (finish_of scenario schedule j) (λ i there same_core. ⊎_elim
      (λ (here : (j == i) ≡ true). omega (arith, ap (finish_of scenario schedule) (eqb-true j i here)))
      (λ (old : is_member i jobs ≡ true). omega (arith, core_idle run is_next i old same_core))
      (or_cases (j == i) (is_member i jobs) (sym (is_member-push i j jobs) ∙ there))) in
      omega (arith, le-core_end scenario schedule more on_core j there refl, most)

  -- ---- the cores on which predecessors of j are last are free by its latest start

  -- the predecessors of j that are last on their cores
  abbrev lasts : List ℕ
  lasts = filter (λ i. is_member i state.last.members) (predecessors table j)

  record IsLast (i : ℕ) : Type 0 where
    is_job : i < length table.jobs
    ends_core : finish_of scenario schedule i ≡ core_end scenario schedule jobs (core_of schedule i)
    finished : finish_of scenario schedule i ≤ start_of schedule j

  IsLast-from_member : (i : ℕ) → is_member i lasts ≡ true → IsLast i
  IsLast-from_member i there =
      let parts = is_member-from_filter (λ i. is_member i state.last.members) (predecessors table j) i there in
      record {
        is_job = is_next.of_table i (is_next.after_predecessors i parts.1);
        ends_core = covers.last i parts.0;
        finished = predecessor_finished run is_next i parts.1;
      }

  -- of two jobs on one core one ends before the other, since no cost is 0
  lasts_apart : (i k : ℕ) → is_member i lasts ≡ true → is_member k lasts ≡ true → i ≢ k → core_of schedule i ≢ core_of schedule k
  lasts_apart i k there there_k differ same_core =
      let a = IsLast-from_member i there in
      let b = IsLast-from_member k there_k in
      let same : core_end scenario schedule jobs (core_of schedule i) ≡ core_end scenario schedule jobs (core_of schedule k) = ap (core_end scenario schedule jobs) same_core in
      ⊎_elim
      (λ (h : finish_of scenario schedule i ≤ start_of schedule k). omega (arith, h, a.ends_core, b.ends_core, same, cost_positive table scenario run.is_table run.fits k b.is_job))
      (λ (h : finish_of scenario schedule k ≤ start_of schedule i). omega (arith, h, a.ends_core, b.ends_core, same, cost_positive table scenario run.is_table run.fits i a.is_job))
      (run.legal.apart i k a.is_job b.is_job differ same_core)

  cap_cores : last_predecessors table state.last.members j ≤ cores_where m (λ core. nat_le (core_end scenario schedule jobs core) w.lst)
  cap_cores =
      let h : length lasts ≤ cores_where m (λ core. nat_le (core_end scenario schedule jobs core) w.lst) =
      distinct_cores m (core_of schedule) (λ core. nat_le (core_end scenario schedule jobs core) w.lst) lasts
      (distinct-filter (λ i. is_member i state.last.members) (predecessors table j) (distinct_predecessors table j run.is_table))
      (λ i there. run.legal.on_cores i (IsLast-from_member i there).is_job)
      (λ i there.
      let a = IsLast-from_member i there in
      le-leb (core_end scenario schedule jobs (core_of schedule i)) w.lst (omega (arith, a.ends_core, a.finished, late)))
      lasts_apart in
      omega (arith, h, length-filter (λ i. is_member i state.last.members) (predecessors table j))

  -- ---- the parts of the state

  abbrev capped : List ℕ
  capped = cap_first state.low (last_predecessors table state.last.members j) w.lst state.high

  next_certain : AreCertain m (core_end scenario schedule more) (next table state j w).high
  next_certain =
      let p = last_predecessors table state.last.members j in
      certain-step m on_core (core_end scenario schedule jobs) (core_end scenario schedule more) is_core
      (λ c other. core_end-other scenario schedule jobs c j other) w.est finish.hi capped
      (length-cap_first state.low p w.lst state.high ∙ sym (as_long nat_le state.low state.high shape.in_order) ∙ shape.low_count)
      (is_sorted-cap_first state.low p w.lst state.high shape.low_sorted shape.high_sorted shape.in_order) by_end
      (certain-cap_first m (core_end scenario schedule jobs) state.low p w.lst state.high cap_cores covers.certain)

  next_possible : ArePossible m (λ core. max (core_end scenario schedule more core) (last_start schedule more)) (next table state j w).low
  next_possible = subst (λ s. ArePossible m (λ core. max (core_end scenario schedule more core) s) (next table state j w).low) (sym (last_start-push scenario schedule jobs j))
      (possible-step m on_core (core_end scenario schedule jobs) (core_end scenario schedule more) is_core
      (λ c other. core_end-other scenario schedule jobs c j other) (last_start schedule jobs) (start_of schedule j) w.est finish.lo state.low
      shape.low_count shape.low_sorted (last-le run is_next) (own_core_idle run is_next) early from_end covers.possible)

  next_tracked : AllHold (finish_of scenario schedule) (next table state j w).ends
  next_tracked =
      let P = λ (e : ℕ × Interval). IsTrue (holds e.1 (finish_of scenario schedule e.0)) in
      let here = and_from (nat_le finish.lo (finish_of scenario schedule j)) (nat_le (finish_of scenario schedule j) finish.hi)
      (le-leb finish.lo (finish_of scenario schedule j) not_sooner) (le-leb (finish_of scenario schedule j) finish.hi not_later) in
      let cut = cut_ends table j w.lst state.ends in
      All-still_tracked P table (with_number j state.set.members) (insert_entry nat_cmp cut j finish)
      (All-insert_entry P cut j finish
      (AllHold-cut (finish_of scenario schedule) table j w.lst state.ends (λ i edge. omega (arith, predecessor_finished run is_next i edge, late)) covers.tracked) here)

  -- a job that runs on after the latest start of j is on another core
  next_last : (i : ℕ) → is_member i (next table state j w).last.members ≡ true → finish_of scenario schedule i ≡ core_end scenario schedule more (core_of schedule i)
  next_last i there =
      let kept = filter (runs_past state.ends w.lst) state.last.members in
      let new = (is_member-from_filter (is_tracked table (with_number j state.set.members)) (with_number j kept) i there).1 in
      ⊎_elim
      (λ (here : (j == i) ≡ true). subst (λ k. finish_of scenario schedule k ≡ core_end scenario schedule more (core_of schedule k)) (eqb-true j i here) own_last)
      (λ (old : is_member i kept ≡ true).
      let parts = is_member-from_filter (runs_past state.ends w.lst) state.last.members i old in
      let runs_on : w.lst < low_end state.ends i = ltb-true w.lst (low_end state.ends i) parts.0 in
      let low : low_end state.ends i ≤ finish_of scenario schedule i = low_end-le (finish_of scenario schedule) i state.ends covers.tracked in
      let is : finish_of scenario schedule i ≡ core_end scenario schedule jobs (core_of schedule i) = covers.last i parts.1 in
      let idle : core_end scenario schedule jobs on_core ≤ start_of schedule j = own_core_idle run is_next in
      let other : core_of schedule i ≢ on_core = λ e.
      let same : core_end scenario schedule jobs (core_of schedule i) ≡ core_end scenario schedule jobs on_core = ap (core_end scenario schedule jobs) e in
      omega (arith, runs_on, low, is, idle, same, late) in
      is ∙ sym (core_end-other scenario schedule jobs (core_of schedule i) j other))
      (or_cases (j == i) (is_member i kept) (sym (is_member-with_number i j kept) ∙ new))

  next_covers : CoversList m scenario schedule more (next table state j w)
  next_covers = record {
    set = members_more j state.set.members jobs covers.set;
    certain = next_certain;
    possible = next_possible;
    tracked = next_tracked;
    last = next_last;
  }

pub steps_cover : StepsCover
steps_cover table m scenario schedule count state is_table fits legal shape below covers =
    let jobs = prefix table schedule count in
    let j = slice_index (dispatch_order table schedule) count in
    let run : IsRun table m scenario schedule = record { is_table = is_table; fits = fits; legal = legal } in
    let is_next : IsNextJob table schedule jobs j = next_in_order run count below in
    let c : CoversList m scenario schedule jobs state = list-from_covers table m scenario schedule count state covers in
    let in_window = window_holds run is_next shape c in
    let w : StartWindow = window_of_next run is_next shape c in
    let longer : jobs ++ j ∷ [] ≡ prefix table schedule (count + 1) =
    sym (take_more (dispatch_order table schedule) count 0 (omega (arith, length-dispatch_order table schedule, below))) in
    let n : CoversList m scenario schedule (prefix table schedule (count + 1)) (next table state j w) =
    subst (λ l. CoversList m scenario schedule l (next table state j w)) longer (next_covers run is_next shape c w in_window.not_before in_window.not_after) in
    let step : IsStepOf table m scenario schedule count state j w = record {
      not_before = in_window.not_before;
      not_after = in_window.not_after;
      covers_next = λ wider wide.
          wider_covers table m scenario schedule (count + 1) wider (next table state j w) wide (covers-from_list table m scenario schedule (count + 1) (next table state j w) n);
    } in
    subst (λ o. IsSomeAnd o (IsStepOf table m scenario schedule count state j)) (sym in_window.is_window) step
