-- What the dispatcher finds at a turn is a turn.
--     ready_some, job_found      while a job is left, there is a time at which one waits, and one is taken then
--     IsNext-found               that job is next, at that time, on that core
use Rattle.std.proofs.Common.{◌≡◌, ◌≢◌, ℕ, zero, suc, ◌+◌, ◌<◌, ◌≤◌, ◌⊎◌, inl, inr, Bool, true, false, cond, List, [], ◌∷◌, length, map, max, get_or, refl, sym, ap, ◌∙◌, subst, arith, Option, Some, None}
use Rattle.std.specs.Prelude.{All, Contains, count_by, nat_lt, ◌==◌, ◌&&◌, IsSome, IsTrue, MatchOption, slice_index}
use Rattle.std.specs.List.{AllByRecursion}
use Rattle.std.specs.declared.cmp.Ordering.{Ordering}
use Rattle.std.specs.declared.cmp.Ordering.TheVariants.{Less}
use Rattle.std.specs.declared.cmp.Reverse.{Reverse}
use Rattle.std.specs.Ordering.{ordering_then, nat_cmp, is_lt}
use Rattle.std.proofs.lemmas.Bool.{eq-eqb, ne_eqb, cond-true, cond-false, lt-ltb}
use Rattle.std.proofs.lemmas.List.Elements.{All-contains, Contains-get_or, All-from_recursion, All-tail, All-weaker}
use Rattle.std.proofs.lemmas.List.Sorted.{All-permutation, Contains-permutation, sum_by_popped}
use Rattle.lists.specs.Numbers.{greatest}
use Rattle.job_model.specs.Table.{Table, IsTable, job_at, predecessors, has_urgency_over}
use Rattle.job_model.specs.Scenario.{Fits, release_of}
use Rattle.job_model.specs.Ranks.{rank_of}
use Rattle.job_model.proofs.RankLaws.{rank_less}
use Rattle.job_model.proofs.UrgencyLaws.{urgent_or_urgent}
use Rattle.run_meaning.specs.declared.places.Place.{Place}
use Rattle.run_meaning.specs.Ready.{finish_of, ready_time}
use Rattle.run_meaning.proofs.Sorted.{ids_differ}
use Rattle.replay.specs.declared.queues.Arrival.{Arrival}
use Rattle.replay.specs.declared.queues.Readiness.{Readiness}
use Rattle.replay.specs.declared.queues.Urgency.{Urgency}
use Rattle.replay.specs.Cores.{IsFirstFree, IsLowestBy}
use Rattle.replay.specs.Queues.{Queued, AreCounted, AreQueued, StaysQueued, IsNextReady, IsWaiting, IsComing, IsWithout, TakesFirst, copies, is_dispatched, urgency_of, missing_of, time_of, urgent_first}
use Rattle.run_turns.specs.Parts.{IsInUse, CanStart, IsTurn}
use Rattle.replay.specs.Underway.{IsUnderway, AreFree, LastOn, HasTurn, IsNext}
use Rattle.replay.proofs.Counted.{all_counted, all_done, all_kept}
use Rattle.replay.proofs.InHeaps.{IsIn, both_zero, counts, in_heaps, is_left, no_member, some_copies}
use Rattle.run_turns.proofs.Left.{undone_some}
use Rattle.replay.proofs.UnderwayLemmas.{time_limit, cost_limit}
use Rattle.run_turns.proofs.Available.{some_available}
use Rattle.lists.proofs.Orderings.{true≢false}

-- the smaller first number decides
less_longer : (a b : ℕ) (o : Ordering) → a < b → is_lt (ordering_then (nat_cmp a b) o) ≡ true
less_longer a b o less = ap (λ p. is_lt (ordering_then p o)) (cond-true (nat_lt a b) Less _ (lt-ltb a b less))

-- where no predecessor is missing, all are dispatched, and the time is when the job is ready
module _ (table : Table) (scenario : List (ℕ × ℕ)) (done : ℕ → Bool) (schedule : List Place) (readiness : List Readiness) (counted : AreCounted table scenario done schedule readiness)
    (j : ℕ) (is_job : j < length table.jobs) where
  pub after_all : missing_of readiness j ≡ 0 → AllByRecursion (λ i. done i ≡ true) (predecessors table j)
  after_all none = all_done done (predecessors table j) (sym (counted.missing j is_job) ∙ none)

  pub lacks_if_after : AllByRecursion (λ i. done i ≡ true) (predecessors table j) → missing_of readiness j ≡ 0
  lacks_if_after after = counted.missing j is_job ∙ all_counted done (predecessors table j) after

  pub ready_is : AllByRecursion (λ i. done i ≡ true) (predecessors table j) → ready_time table scenario schedule j ≡ time_of readiness j
  ready_is after =
      ap (λ xs. greatest (release_of scenario j ∷ map (finish_of scenario schedule) xs)) (sym (all_kept done (predecessors table j) after))
      ∙ sym (counted.time j is_job)

module _ (table : Table) (m : ℕ) (scenario : List (ℕ × ℕ)) (is_table : IsTable table) where
  -- while a job is left, there is a time at which one waits
  pub ready_some : (old : Queued) (free : List ℕ) (clock from : ℕ) → HasTurn table m scenario old free clock →
      (o : Option ℕ) → MatchOption o ((old.waiting ≡ []) × (old.later ≡ [])) (IsNextReady old from) → IsSome o
  ready_some old free clock from has (Some t) found = refl
  ready_some old free clock from has None none =
      let left = undone_some (is_dispatched old) (length table.jobs) (omega (arith, has.more, has.stands.left)) in
      let next = some_available table is_table (is_dispatched old) left.0 left.1 left.2 in
      let lacks = lacks_if_after table scenario (is_dispatched old) has.schedule old.readiness has.counted next.0 next.1 next.2.1 in
      absurd (by next.0 (in_heaps old next.0 (is_left old next.0 next.2.0 lacks)))
    where
      by : (j : ℕ) → IsIn old j → ⊥
      by j (inl found) = no_member old.waiting found.0 none.0 found.1
      by j (inr found) = no_member old.later found.0 none.1 found.1

  module _ (old mid : Queued) (clock time : ℕ) (queues : AreQueued table clock old) (from : clock ≤ time)
      (stays : StaysQueued table time old mid) (rest : All (λ e. time < e.0.time) mid.later) where
    queues_mid : AreQueued table time mid
    queues_mid = stays.kept (record {
      waits = All-weaker (IsWaiting table clock old.readiness) (IsWaiting table time old.readiness)
          (λ e waits. record { is_job = waits.is_job; key = waits.key; lacks_none = waits.lacks_none; ready = omega (arith, waits.ready, from) }) old.waiting queues.waits;
      comes = queues.comes;
      once = queues.once;
    })

    -- what is ready by the time waits
    waits_by : (j : ℕ) → 1 ≤ copies old j → time_of old.readiness j ≤ time → (e : Reverse Urgency) × Contains mid.waiting e × (e.0.no ≡ j)
    waits_by j some ready = by (in_heaps mid j (omega (arith, some, stays.same j)))
      where
        by : IsIn mid j → (e : Reverse Urgency) × Contains mid.waiting e × (e.0.no ≡ j)
        by (inl found) = found
        by (inr found) =
            let comes = All-contains (IsComing table mid.readiness) mid.later found.0 queues_mid.comes found.1 in
            let late : time < found.0.0.time = All-contains (λ e. time < e.0.time) mid.later found.0 rest found.1 in
            absurd (omega (arith, late, comes.time, ap (time_of mid.readiness) found.2, ap (λ xs. time_of xs j) stays.readiness, ready))

    -- so while one of them is left, one is taken
    waits_some : (idle : ℕ) → IsNextReady old (max clock idle) time → mid.waiting ≡ [] → ⊥
    waits_some idle ready none = by ready.there
      where
        never : (j : ℕ) → 1 ≤ copies old j → time_of old.readiness j ≤ time → ⊥
        never j some is_ready = let found = waits_by j some is_ready in no_member mid.waiting found.0 none found.1

        by : (0 < length old.waiting) ⊎ ((e : Reverse Arrival) × Contains old.later e × (e.0.time ≤ time)) → ⊥
        by (inl some) =
            let d : Reverse Urgency = record { 0 = urgency_of table 0 } in
            let first = get_or old.waiting 0 d in
            let is_in : Contains old.waiting first = Contains-get_or old.waiting 0 d some in
            let waits = All-contains (IsWaiting table clock old.readiness) old.waiting first queues.waits is_in in
            let there = counts (λ e. e.0.no == first.0.no) old.waiting first is_in (eq-eqb first.0.no first.0.no refl) in
            never first.0.no (omega (arith, there)) (omega (arith, waits.ready, from))
        by (inr found) =
            let comes = All-contains (IsComing table old.readiness) old.later found.0 queues.comes found.1 in
            let there = counts (λ e. e.0.no == found.0.0.no) old.later found.0 found.1 (eq-eqb found.0.0.no found.0.0.no refl) in
            never found.0.0.no (omega (arith, there)) (omega (arith, comes.time, found.2))

    job_some : (idle : ℕ) → IsNextReady old (max clock idle) time → (new : Queued) (o : Option Urgency) → MatchOption o (mid.waiting ≡ []) (TakesFirst mid new) → IsSome o
    job_some idle ready new (Some e) found = refl
    job_some idle ready new None none = absurd (waits_some idle ready none)

    module _ (new : Queued) (e : Urgency) (takes : TakesFirst mid new e) where
      there : IsWaiting table time mid.readiness (record { 0 = e })
      there = All-permutation (IsWaiting table time mid.readiness) mid.waiting _ takes.taken queues_mid.waits 0 (record { 0 = e }) (omega arith)

      copies_taken : (j : ℕ) → copies new j + cond (e.no == j) 1 0 ≡ copies old j
      copies_taken j =
          omega (
            arith,
            sum_by_popped (λ x. cond (x.0.no == j) 1 0) (record { 0 = e }) mid.waiting new.waiting takes.taken,
            stays.same j,
            ap (λ xs. count_by (λ x. x.0.no == j) xs) takes.later,
          )

      one : ◌≡◌ {A = ℕ} (cond (e.no == e.no) 1 0) 1
      one = cond-true (e.no == e.no) 1 0 (eq-eqb e.no e.no refl)

      none : (j : ℕ) → j ≢ e.no → ◌≡◌ {A = ℕ} (cond (e.no == j) 1 0) 0
      none j differ = cond-false (e.no == j) 1 0 (ne_eqb e.no j (λ same. differ (sym same)))

      readiness_kept : new.readiness ≡ old.readiness
      readiness_kept = takes.readiness ∙ stays.readiness

      lacks : missing_of old.readiness e.no ≡ 0
      lacks = ap (λ xs. missing_of xs e.no) (sym stays.readiness) ∙ there.lacks_none

      -- the job that is taken leaves the heaps, and no other does
      without_is : IsWithout table time old new e.no
      without_is = record {
        queues = record {
          waits = subst (λ xs. All (IsWaiting table time xs) new.waiting) (sym takes.readiness)
              (All-tail (IsWaiting table time mid.readiness) _ _ (All-permutation (IsWaiting table time mid.readiness) mid.waiting _ takes.taken queues_mid.waits));
          comes = subst (λ xs. All (IsComing table xs) new.later) (sym takes.readiness) (subst (All (IsComing table mid.readiness)) (sym takes.later) queues_mid.comes);
          once = λ j. omega (arith, copies_taken j, queues.once j);
        };
        readiness = readiness_kept;
        gone = both_zero (copies new e.no) (missing_of new.readiness e.no) (omega (arith, copies_taken e.no, one, queues.once e.no)) (ap (λ xs. missing_of xs e.no) readiness_kept ∙ lacks);
        others = λ j differ.
            let same : copies new j ≡ copies old j = omega (arith, copies_taken j, none j differ) in
            ap (λ n. (n == 0) && (missing_of new.readiness j == 0)) same ∙ ap (λ xs. (copies old j == 0) && (missing_of xs j == 0)) readiness_kept;
      }

      module _ (schedule : List Place) (counted : AreCounted table scenario (is_dispatched old) schedule old.readiness) where
        can_start : CanStart table m scenario (is_dispatched old) schedule e.no time
        can_start =
            let after = after_all table scenario (is_dispatched old) schedule old.readiness counted e.no there.is_job lacks in
            record {
              is_job = there.is_job;
              waits = some_copies old e.no (omega (arith, copies_taken e.no, one));
              after = after;
              ready = omega (arith, ready_is table scenario (is_dispatched old) schedule old.readiness counted e.no there.is_job after, there.ready, ap (λ xs. time_of xs e.no) stays.readiness);
            }

        -- a job that can start is in the heaps, with the time from which it is ready
        is_there : (i t : ℕ) → CanStart table m scenario (is_dispatched old) schedule i t → (1 ≤ copies old i) × (time_of old.readiness i ≤ t)
        is_there i t can = (
          is_left old i can.waits (lacks_if_after table scenario (is_dispatched old) schedule old.readiness counted i can.is_job can.after),
          omega (arith, can.ready, ready_is table scenario (is_dispatched old) schedule old.readiness counted i can.is_job can.after),
        )

        -- what is not above e in the heap is less urgent
        urgent_over : (i : ℕ) → i < length table.jobs → i ≢ e.no → is_lt (urgent_first (record { 0 = e }) (record { 0 = urgency_of table i })) ≡ false → has_urgency_over table e.no i ≡ true
        urgent_over i is_job differ below =
            by (urgent_or_urgent (job_at table e.no) (job_at table i) (ids_differ table schedule is_table e.no i there.is_job is_job (λ same. differ (sym same))))
          where
            before : has_urgency_over table i e.no ≡ true → is_lt (urgent_first (record { 0 = urgency_of table e.no }) (record { 0 = urgency_of table i })) ≡ true
            before h = less_longer (rank_of table i) (rank_of table e.no) (nat_cmp i e.no) (rank_less table i e.no is_job h)

            by : (has_urgency_over table e.no i ≡ true) ⊎ (has_urgency_over table i e.no ≡ true) → has_urgency_over table e.no i ≡ true
            by (inl h) = h
            by (inr h) =
                absurd (true≢false (sym (before h) ∙ ap (λ k. is_lt (urgent_first (record { 0 = k }) (record { 0 = urgency_of table i }))) (sym there.key) ∙ below))

        most_urgent : (i : ℕ) → CanStart table m scenario (is_dispatched old) schedule i time → i ≢ e.no → IsTrue (has_urgency_over table e.no i)
        most_urgent i can differ =
            let inside = is_there i time can in
            let found = waits_by i inside.0 inside.1 in
            let waits = All-contains (IsWaiting table time mid.readiness) mid.waiting found.0 queues_mid.waits found.1 in
            let in_all = Contains-permutation mid.waiting _ found.0 takes.taken found.1 in
            by found.0 found.2 waits.key in_all
          where
            below : (x : Reverse Urgency) → Contains new.waiting x → is_lt (urgent_first (record { 0 = e }) x) ≡ false
            below x inside = All-contains (λ y. is_lt (urgent_first (record { 0 = e }) y) ≡ false) new.waiting x
                (All-from_recursion (λ y. is_lt (urgent_first (record { 0 = e }) y) ≡ false) new.waiting takes.first) inside

            key_is : (x : Reverse Urgency) → x.0.no ≡ i → x.0 ≡ urgency_of table x.0.no → x.0 ≡ urgency_of table i
            key_is x same key = key ∙ ap (urgency_of table) same

            by : (x : Reverse Urgency) → x.0.no ≡ i → x.0 ≡ urgency_of table x.0.no → Contains (record { 0 = e } ∷ new.waiting) x → IsTrue (has_urgency_over table e.no i)
            by x same key (zero, less, at) = absurd (differ (sym (ap (λ y. y.0.no) at ∙ same)))
            by x same key (suc k, less, at) =
                urgent_over i can.is_job differ (ap (λ y. is_lt (urgent_first (record { 0 = e }) (record { 0 = y }))) (sym (key_is x same key)) ∙ below x (k, omega (arith, less), at))

        module _ (turn : ℕ) (stands : IsUnderway table m scenario (is_dispatched old) schedule clock turn) (free : List ℕ) (frees : AreFree table m scenario (is_dispatched old) schedule free)
            (idle core : ℕ) (least : IsFirstFree free idle) (ready : IsNextReady old (max clock idle) time) (lowest : IsLowestBy free time core) where
          -- a core that is not free by s is in use then
          in_use : (c s : ℕ) → c < m → clock ≤ s → s < slice_index free c → IsInUse table m scenario (is_dispatched old) schedule c s
          in_use c s below since less = by (frees.since c below)
            where
              by : (slice_index free c ≡ 0) ⊎ LastOn table scenario (is_dispatched old) schedule free c → IsInUse table m scenario (is_dispatched old) schedule c s
              by (inl unused) = absurd (omega (arith, unused, less))
              by (inr last) = record {
                by = last.by;
                is_job = last.is_job;
                is_done = last.is_done;
                there = last.there;
                running = (omega (arith, since, stands.part.by_clock last.by last.is_job last.is_done), omega (arith, last.until, less));
              }

          -- before the time, no job is ready or no core is free
          none_before : (i s : ℕ) → clock ≤ s → s < time → CanStart table m scenario (is_dispatched old) schedule i s → (c : ℕ) → c < m → IsInUse table m scenario (is_dispatched old) schedule c s
          none_before i s since less can c below = by ready.first
            where
              inside : (1 ≤ copies old i) × (time_of old.readiness i ≤ s)
              inside = is_there i s can

              arrives : old.waiting ≡ [] → All (λ x. time ≤ x.0.time) old.later → IsIn old i → ⊥
              arrives empty late (inl found) = no_member old.waiting found.0 empty found.1
              arrives empty late (inr found) =
                  let comes = All-contains (IsComing table old.readiness) old.later found.0 queues.comes found.1 in
                  let after : time ≤ found.0.0.time = All-contains (λ x. time ≤ x.0.time) old.later found.0 late found.1 in
                  omega (arith, after, comes.time, ap (time_of old.readiness) found.2, inside.1, less)

              by : (time ≡ max clock idle) ⊎ ((old.waiting ≡ []) × All (λ x. time ≤ x.0.time) old.later) → IsInUse table m scenario (is_dispatched old) schedule c s
              by (inl e) =
                  let after : idle ≤ slice_index free c = least.1 c (omega (arith, below, frees.core_count)) in
                  in_use c s below since (omega (arith, e, less, since, after))
              by (inr (empty, late)) = absurd (arrives empty late (in_heaps old i inside.0))

          next_is : IsTurn table m scenario (is_dispatched old) schedule clock e.no core time
          next_is = record {
            can_start = can_start;
            not_before = from;
            in_range = omega (arith, lowest.in_range, frees.core_count);
            idle = λ i is_job is_done on_core. omega (arith, frees.after i is_job is_done, ap (slice_index free) on_core, lowest.is_free);
            lower_busy = λ c less. in_use c time (omega (arith, less, lowest.in_range, frees.core_count)) from (lowest.lower_later c less);
            earliest = none_before;
            most_urgent = most_urgent;
          }

-- all that is said of the turn that is found, from what the calls say
module _ (table : Table) (m : ℕ) (scenario : List (ℕ × ℕ)) (is_table : IsTable table) (fits : Fits table scenario)
    (old mid new : Queued) (free : List ℕ) (clock idle from time : ℕ) (has : HasTurn table m scenario old free clock) (from_is : from ≡ max clock idle)
    (ready : IsNextReady old from time) (stays : StaysQueued table time old mid) (rest : All (λ e. time < e.0.time) mid.later) where
  ready_max : IsNextReady old (max clock idle) time
  ready_max = subst (λ x. IsNextReady old x time) from_is ready

  not_before : clock ≤ time
  not_before = omega (arith, ready.not_before, from_is)

  pub job_found : (o : Option Urgency) → MatchOption o (mid.waiting ≡ []) (TakesFirst mid new) → IsSome o
  job_found o found = job_some table m scenario is_table old mid clock time has.queues not_before stays rest idle ready_max new o found

  module _ (e : Urgency) (core : ℕ) (takes : TakesFirst mid new e) (least : IsFirstFree free idle) (lowest : IsLowestBy free time core) where
    turn_is : (schedule : List Place) (turn : ℕ) → IsUnderway table m scenario (is_dispatched old) schedule clock turn →
        AreFree table m scenario (is_dispatched old) schedule free → AreCounted table scenario (is_dispatched old) schedule old.readiness → IsTurn table m scenario (is_dispatched old) schedule clock e.no core time
    turn_is schedule turn stands frees counted =
        next_is table m scenario is_table old mid clock time has.queues not_before stays rest new e takes schedule counted turn stands free frees idle core least ready_max lowest

    pub IsNext-found : IsNext table m scenario old free clock new (e.no, core, time)
    IsNext-found =
        let here = turn_is has.schedule has.turn has.stands has.frees has.counted in
        record {
          turn = turn_is;
          taken = without_is table m scenario is_table old mid clock time has.queues not_before stays rest new e takes;
          is_job = here.can_start.is_job;
          is_core = here.in_range;
          in_time = omega (
            arith,
            has.more,
            is_table.few_jobs,
            time_limit table m scenario is_table fits (is_dispatched old) has.schedule clock has.turn has.stands e.no core time here,
            cost_limit table m scenario is_table fits (is_dispatched old) has.schedule clock has.turn has.stands e.no core time here,
          );
        }
