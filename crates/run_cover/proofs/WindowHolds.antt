-- The next job of a legal run may be the next to start from a state that covers the jobs before it, and its start is in its window.
--     IsCandidate table set x             the parts of the test
--     earliest-le, possible-le            no earlier than it is possibly ready, and a core possibly free
--     start-le-certain                    no later than some candidate certainly starts
--     before_overtaken                    before a more urgent candidate is certainly there
--     IsInWindow, window_holds            the window exists and holds the start
use Rattle.std.proofs.Common.{◌≡◌, ◌≢◌, ℕ, ◌<◌, ◌≤◌, true, false, not, List, [], length, map, filter, refl, ap, arith, inl, inr, ⊎_elim, ◌⊎◌, sym, ◌∙◌, max, Option, Some, None, unwrap_or}
use Rattle.std.specs.Prelude.{nat_lt, nat_le, ◌&&◌}
use Rattle.std.specs.List.{AllByRecursion, list_all}
use Rattle.std.proofs.lemmas.Bool.{cases_Bool, cases_eq, cases_lt, and_parts, and_from, ltb-true, lt-ltb, leb-true, le-leb, not-true, not_from_false, cond-true, false≢true}
use Rattle.std.proofs.lemmas.List.Elements.{filter_passes, recursion_from_All}
use Rattle.job_sets.specs.Subset.{is_member}
use Rattle.job_sets.proofs.Members.{is_member-filter, is_member-range, list_all-member, list_all-from_members}
use Rattle.lists.specs.Numbers.{greatest, least, numbers_below}
use Rattle.job_model.specs.Table.{Table, job_at, predecessors, has_urgency_over}
use Rattle.job_model.specs.Scenario.{release_of}
use Rattle.job_model.proofs.UrgencyLaws.{urgent_itself, urgent_one_way}
use Rattle.run_meaning.specs.declared.places.Place.{Place}
use Rattle.run_meaning.specs.Ready.{start_of, core_of, finish_of, ready_time}
use Rattle.run_meaning.specs.Legal.{IsHeldBack, IsBusy}
use Rattle.lists.proofs.Elements.{recursion_weaker}
use Rattle.start_windows.specs.declared.StartWindow.{StartWindow}
use Rattle.start_windows.specs.Ends.{low_end, high_end}
use Rattle.start_windows.specs.Window.{is_candidate, candidates, earliest_ready, latest_ready, earliest_start, certain_start, ready_beside, overtaken_from, is_before, last_before}
use Rattle.start_windows.proofs.SomeEligible.{least_of, before-least, greatest-member}
use Rattle.start_windows.proofs.WindowFacts.{le-last_before}
use Rattle.sag_step.specs.State.{SystemState, first_core, state_window}
use Rattle.sag_step.specs.Shape.{HasShape}
use Rattle.run_cover.specs.Covers.{core_end, last_start}
use Rattle.run_cover.proofs.CoreCounts.{counted, some_core}
use Rattle.run_cover.proofs.CoreEnds.{greatest-le, le-core_end}
use Rattle.run_cover.proofs.CoversList.{CoversList}
use Rattle.run_cover.proofs.FinishTimes.{low_end-le, le-high_end, tracked-predecessor}
use Rattle.run_cover.proofs.NextJob.{IsRun, IsNextJob, ready-le, predecessor_finished, own_core_idle, last-le}
use Rattle.sag_time.proofs.Counts.{one_if-true}

-- the parts of the test
record IsCandidate (table : Table) (set : List ℕ) (x : ℕ) : Type 0 where
  is_job : x < length table.jobs
  open_job : is_member x set ≡ false
  closed : (i : ℕ) → is_member i (predecessors table x) ≡ true → is_member i set ≡ true

module _ (table : Table) (set : List ℕ) (x : ℕ) where
  IsCandidate-from_test : is_candidate table set x ≡ true → IsCandidate table set x
  IsCandidate-from_test e =
      let a = and_parts (nat_lt x (length table.jobs) && not (is_member x set)) (list_all (λ i. is_member i set) (predecessors table x)) e in
      let b = and_parts (nat_lt x (length table.jobs)) (not (is_member x set)) a.0 in
      record {
        is_job = ltb-true x (length table.jobs) b.0;
        open_job = not-true (is_member x set) b.1;
        closed = λ i edge. list_all-member (λ i. is_member i set) (predecessors table x) i a.1 edge;
      }

  test-from_IsCandidate : IsCandidate table set x → is_candidate table set x ≡ true
  test-from_IsCandidate c =
      and_from (nat_lt x (length table.jobs) && not (is_member x set)) (list_all (λ i. is_member i set) (predecessors table x))
      (and_from (nat_lt x (length table.jobs)) (not (is_member x set)) (lt-ltb x (length table.jobs) c.is_job) (not_from_false (is_member x set) c.open_job))
      (list_all-from_members (λ i. is_member i set) (predecessors table x) c.closed)

is_before-sooner : (s t : ℕ) (limit : Option ℕ) → s ≤ t → is_before t limit ≡ true → is_before s limit ≡ true
is_before-sooner s t None h e = refl
is_before-sooner s t (Some limit) h e = lt-ltb s limit (omega (arith, h, ltb-true t limit e))

module _ {table : Table} {m : ℕ} {scenario : List (ℕ × ℕ)} {schedule : List Place} (run : IsRun table m scenario schedule)
    {jobs : List ℕ} {j : ℕ} (is_next : IsNextJob table schedule jobs j)
    {state : SystemState} (shape : HasShape table m state) (covers : CoversList m scenario schedule jobs state) where
  abbrev set : List ℕ
  set = state.set.members

  abbrev start : ℕ
  start = start_of schedule j

  next_is_candidate : IsCandidate table set j
  next_is_candidate = record {
    is_job = is_next.is_job;
    open_job = covers.set j ∙ is_next.outside;
    closed = λ i edge. covers.set i ∙ is_next.after_predecessors i edge;
  }

  all_candidates : AllByRecursion (λ x. is_candidate table set x ≡ true) (candidates table set)
  all_candidates = recursion_from_All (λ x. is_candidate table set x ≡ true) (candidates table set) (filter_passes (is_candidate table set) (numbers_below (length table.jobs)))

  -- a job that is not dispatched, other than j, comes later
  later : (x : ℕ) → x < length table.jobs → is_member x set ≡ false → start ≤ start_of schedule x
  later x below open_job = ⊎_elim
      (λ (here : x ≡ j). omega (arith, ap (start_of schedule) here))
      (λ (other : x ≡ j → ⊥). is_next.others_later x below (sym (covers.set x) ∙ open_job) other)
      (cases_eq x j)

  -- a job that starts before j is dispatched
  dispatched : (i : ℕ) → i < length table.jobs → start_of schedule i < start → is_member i jobs ≡ true
  dispatched i below sooner = ⊎_elim
      (λ (yes : is_member i jobs ≡ true). yes)
      (λ (no : is_member i jobs ≡ false). absurd (omega (arith, sooner, later i below (covers.set i ∙ no))))
      (cases_Bool (is_member i jobs))

  -- ---- no earlier than it is possible

  earliest-le : earliest_ready table state.ends j ≤ start
  earliest-le =
      let early : (job_at table j).rmin ≤ release_of scenario j = (run.fits.each j is_next.is_job).not_before in
      let ready : ready_time table scenario schedule j ≤ start = run.legal.after_ready j is_next.is_job in
      let lows : greatest (map (low_end state.ends) (predecessors table j)) ≤ start = greatest-le (low_end state.ends) (predecessors table j) start (λ i edge.
      omega (arith, low_end-le (finish_of scenario schedule) i state.ends covers.tracked, predecessor_finished run is_next i edge)) in
      omega (arith, early, ready, lows)

  possible-le : (first_core state).lo ≤ start
  possible-le = ⊎_elim
      (λ (late : start < (first_core state).lo).
      let free = λ (c : ℕ). max (core_end scenario schedule jobs c) (last_start schedule jobs) in
      let d = core_of schedule j in
      let passes : nat_lt (free d) (first_core state).lo ≡ true = lt-ltb (free d) (first_core state).lo (omega (arith, own_core_idle run is_next, last-le run is_next, late)) in
      let on_core : d < m = run.legal.on_cores j is_next.is_job in
      absurd (omega (arith, covers.possible 0 (omega (arith, on_core)), counted m d (λ c. nat_lt (free c) (first_core state).lo) on_core, one_if-true (nat_lt (free d) (first_core state).lo) passes)))
      (λ (h : (first_core state).lo ≤ start). h)
      (cases_lt start (first_core state).lo)

  -- ---- no later than some candidate certainly starts

  -- a predecessor of a candidate finishes by its high end
  finish-le-high : (i x : ℕ) → IsCandidate table set x → is_member i (predecessors table x) ≡ true → finish_of scenario schedule i ≤ high_end state.ends i
  finish-le-high i x c edge = le-high_end (finish_of scenario schedule) i state.ends covers.tracked
      (ap (is_member i) shape.tracked ∙ tracked-predecessor table set i x (c.closed i edge) c.open_job edge)

  candidate_ready : (x : ℕ) → IsCandidate table set x → ready_time table scenario schedule x ≤ latest_ready table state.ends x
  candidate_ready x c =
      let late : release_of scenario x ≤ (job_at table x).rmax = (run.fits.each x c.is_job).not_after in
      ready-le run x (latest_ready table state.ends x) (omega (arith, late)) (λ i edge.
      omega (arith, finish-le-high i x c edge, greatest-member (high_end state.ends) i (predecessors table x) edge))

  -- where some core is free by t and some candidate is ready by then, j starts by t
  start-by : (t x c : ℕ) → IsCandidate table set x → ready_time table scenario schedule x ≤ t → c < m → core_end scenario schedule jobs c ≤ t → start ≤ t
  start-by t x c candidate ready below free = ⊎_elim
      (λ (late : t < start).
      let after : start ≤ start_of schedule x = later x candidate.is_job candidate.open_job in
      let held : IsHeldBack table scenario schedule m x t = run.legal.held_back x t candidate.is_job ready (omega (arith, late, after)) in
      let busy : IsBusy table scenario schedule c t = held.all_busy c below in
      let there : is_member busy.by jobs ≡ true = dispatched busy.by busy.is_job (omega (arith, busy.running.0, late)) in
      absurd (omega (arith, le-core_end scenario schedule jobs c busy.by there busy.there, free, busy.running.1)))
      (λ (h : start ≤ t). h)
      (cases_lt t start)

  start-le-certain : start ≤ certain_start table set state.ends (first_core state)
  start-le-certain = at (least_of (λ x. is_candidate table set x ≡ true) (latest_ready table state.ends) (candidates table set) all_candidates)
    where
      at : (candidates table set ≡ []) ⊎ ((x : ℕ) × (is_candidate table set x ≡ true) × (least (map (latest_ready table state.ends) (candidates table set)) ≡ Some (latest_ready table state.ends x))) →
          start ≤ certain_start table set state.ends (first_core state)
      at (inl none) =
          let there : is_member j (candidates table set) ≡ true = is_member-filter (is_candidate table set) (numbers_below (length table.jobs)) j
          (test-from_IsCandidate table set j next_is_candidate) (is_member-range 0 (length table.jobs) j (omega arith) (omega (arith, is_next.is_job))) in
          absurd (false≢true (sym (ap (is_member j) none) ∙ there))
      at (inr (x, passes, is)) =
          let high : ℕ = (first_core state).hi in
          let c = some_core m (λ c. nat_le (core_end scenario schedule jobs c) high) (covers.certain 0 (omega (arith, run.legal.on_cores j is_next.is_job))) in
          let free : core_end scenario schedule jobs c.0 ≤ high = leb-true (core_end scenario schedule jobs c.0) high c.2 in
          let candidate = IsCandidate-from_test table set x passes in
          let t = max high (latest_ready table state.ends x) in
          let whole : certain_start table set state.ends (first_core state) ≡ t = ap (λ o. max high (unwrap_or o 0)) is in
          let h : start ≤ t = start-by t x c.0 candidate (omega (arith, candidate_ready x candidate)) c.1 (omega (arith, free)) in
          omega (arith, whole, h)

  -- ---- before a more urgent candidate is certainly there

  -- once a more urgent candidate is ready, j does not start any more
  ready-after : (x : ℕ) → IsCandidate table set x → has_urgency_over table x j ≡ true → ready_time table scenario schedule x ≤ start → ⊥
  ready-after x c urgent ready =
      let after : start ≤ start_of schedule x = later x c.is_job c.open_job in
      let not_over : has_urgency_over table j x ≡ true → ⊥ = λ first. false≢true (sym (urgent_one_way (job_at table j) (job_at table x) first) ∙ urgent) in
      let other : x ≢ j = λ e. false≢true (sym (urgent_itself (job_at table j)) ∙ ap (λ k. has_urgency_over table k j) (sym e) ∙ urgent) in
      ⊎_elim
      (λ (tie : start_of schedule x ≡ start). not_over (is_next.less_urgent x c.is_job (sym (covers.set x) ∙ c.open_job) other tie))
      (λ (apart : start_of schedule x ≡ start → ⊥).
      let held : IsHeldBack table scenario schedule m x start = run.legal.held_back x start c.is_job ready (omega (arith, after, apart)) in
      not_over (held.urgent_first j is_next.is_job refl))
      (cases_eq (start_of schedule x) start)

  start-before : (x : ℕ) → IsCandidate table set x → has_urgency_over table x j ≡ true → start < ready_beside table state.ends j x
  start-before x c urgent = ⊎_elim
      (λ (h : start < ready_beside table state.ends j x). h)
      (λ (early : ready_beside table state.ends j x ≤ start).
      let own_only = λ (i : ℕ). not (is_member i (predecessors table j)) in
      let released : release_of scenario x ≤ (job_at table x).rmax = (run.fits.each x c.is_job).not_after in
      absurd (ready-after x c urgent (ready-le run x start (omega (arith, released, early)) (λ i edge. ⊎_elim
      (λ (shared : is_member i (predecessors table j) ≡ true). predecessor_finished run is_next i shared)
      (λ (own : is_member i (predecessors table j) ≡ false).
      let listed : is_member i (filter own_only (predecessors table x)) ≡ true = is_member-filter own_only (predecessors table x) i (not_from_false (is_member i (predecessors table j)) own) edge in
      let most : high_end state.ends i ≤ greatest (map (high_end state.ends) (filter own_only (predecessors table x))) = greatest-member (high_end state.ends) i (filter own_only (predecessors table x)) listed in
      omega (arith, finish-le-high i x c edge, most, early))
      (cases_Bool (is_member i (predecessors table j)))))))
      (cases_lt start (ready_beside table state.ends j x))

  before_overtaken : is_before start (overtaken_from table set state.ends j) ≡ true
  before_overtaken = before-least (ready_beside table state.ends j) (λ x. has_urgency_over table x j) start (candidates table set)
      (recursion_weaker (λ x. is_candidate table set x ≡ true) (λ x. has_urgency_over table x j ≡ true → start < ready_beside table state.ends j x)
      (λ x passes urgent. start-before x (IsCandidate-from_test table set x passes) urgent) (candidates table set) all_candidates)

  -- ---- the window

  abbrev pub window_of_next : StartWindow
  window_of_next = record {
    est = earliest_start table state.ends (first_core state) j;
    lst = last_before (overtaken_from table set state.ends j) (certain_start table set state.ends (first_core state));
  }

  -- the window exists and holds the start
  pub record IsInWindow : Type 0 where
    pub is_window : state_window table state j ≡ Some window_of_next
    pub not_before : window_of_next.est ≤ start_of schedule j
    pub not_after : start_of schedule j ≤ window_of_next.lst

  pub window_holds : IsInWindow
  window_holds =
      let est = earliest_start table state.ends (first_core state) j in
      let certain = certain_start table set state.ends (first_core state) in
      let limit = overtaken_from table set state.ends j in
      let early : est ≤ start = omega (arith, earliest-le, possible-le) in
      let eligible : (is_candidate table set j && nat_le est certain && is_before est limit) ≡ true =
      and_from (is_candidate table set j && nat_le est certain) (is_before est limit)
      (and_from (is_candidate table set j) (nat_le est certain) (test-from_IsCandidate table set j next_is_candidate) (le-leb est certain (omega (arith, early, start-le-certain))))
      (is_before-sooner est start limit early before_overtaken) in
      record {
        is_window = cond-true (is_candidate table set j && nat_le est certain && is_before est limit) (Some window_of_next) None eligible;
        not_before = early;
        not_after = le-last_before start certain limit start-le-certain before_overtaken;
      }
