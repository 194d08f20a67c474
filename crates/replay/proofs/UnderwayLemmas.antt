-- The invariant of the dispatcher's loop.
--     IsUnderway-first, AreFree-first        it holds at first
--     time_limit, cost_limit             a turn's time and its job's cost are within limits
--     IsUnderway-more, AreFree-more          a turn keeps it
--     lack_turned                        the successors of the job that is dispatched lack it
--     LoopKeeps-turned                   a turn over the values that the loop has
--     Legal-from_underway, LowestIdle-from_underway      where no job is left, the places are a legal run
use Rattle.std.proofs.Common.{◌≡◌, ◌≢◌, ℕ, zero, suc, ◌+◌, ◌*◌, ◌<◌, ◌≤◌, ◌⊎◌, inl, inr, Bool, true, false, List, length, get_or, set, refl, sym, ap, ◌∙◌, subst, arith}
use Rattle.std.specs.Prelude.{count_by, slice_index, ◌==◌}
use Rattle.std.proofs.lemmas.Bool.{cases_lt, cases_eq}
use Rattle.std.proofs.lemmas.List.{length-set, get_or-set_same, get_or-set_other, length-replicate}
use Rattle.std.proofs.Math.ListN.{replicate}
use Rattle.job_model.specs.declared.limits.TheConstants.{MOST_ARRIVAL, MOST_COST}
use Rattle.job_model.specs.Table.{Table, IsTable, no_job, predecessors, successors}
use Rattle.job_model.specs.Scenario.{Fits, cost_of, release_of}
use Rattle.run_meaning.specs.declared.places.Place.{Place}
use Rattle.run_meaning.specs.Ready.{core_of, finish_of, ready_time}
use Rattle.run_meaning.specs.Legal.{Legal, LowestIdle}
use Rattle.run_meaning.proofs.StartsAgree.{predecessors_below, ready_by}
use Rattle.lists.proofs.Elements.{recursion_at}
use Rattle.replay.specs.Queues.{Queued, Unblocks, is_dispatched, missing_of}
use Rattle.run_turns.specs.Parts.{IsTurn}
use Rattle.replay.specs.Underway.{IsUnderway, AreFree, LastOn, LoopKeeps, IsNext}
use Rattle.run_turns.proofs.Part.{Adds, Adds-set, part_none, part_more, Legal-from_part, LowestIdle-from_part}
use Rattle.run_turns.proofs.Left.{undone_none, undone_less, undone_all}
use Rattle.replay.proofs.Lacking.{successors_lack, AreCounted-more}
use Rattle.lists.proofs.Orderings.{true≢false}

module _ (table : Table) (m : ℕ) (scenario : List (ℕ × ℕ)) (done : ℕ → Bool) (schedule : List Place) (none : (j : ℕ) → j < length table.jobs → done j ≡ false) where
  never : (j : ℕ) → j < length table.jobs → done j ≡ true → ⊥
  never j is_job is_done = true≢false (sym is_done ∙ none j is_job)

  pub IsUnderway-first : length schedule ≡ length table.jobs → IsUnderway table m scenario done schedule 0 0
  IsUnderway-first e = record {
    part = part_none table m scenario done schedule e none;
    clock_limit = omega arith;
    finish_limit = λ i is_job is_done. absurd (never i is_job is_done);
    left = omega (arith, undone_all done (length table.jobs) none);
  }

  pub AreFree-first : (free : List ℕ) → free ≡ replicate m 0 → AreFree table m scenario done schedule free
  AreFree-first free e = record {
    core_count = ap length e ∙ length-replicate m 0;
    after = λ i is_job is_done. absurd (never i is_job is_done);
    since = λ c below. inl (ap (λ xs. slice_index xs c) e ∙ at_zero m c);
  }
    where
      at_zero : (m c : ℕ) → slice_index (replicate m 0) c ≡ 0
      at_zero zero c = refl
      at_zero (suc m) zero = refl
      at_zero (suc m) (suc c) = at_zero m c

module _ (table : Table) (m : ℕ) (scenario : List (ℕ × ℕ)) (is_table : IsTable table) (fits : Fits table scenario)
    (done : ℕ → Bool) (schedule : List Place) (clock turn : ℕ) (stands : IsUnderway table m scenario done schedule clock turn) where
  module _ (job core time : ℕ) (is_turn : IsTurn table m scenario done schedule clock job core time) where
    is_job : job < length table.jobs
    is_job = is_turn.can_start.is_job

    -- the time is within its limit: at that limit what is dispatched has finished, and the job is ready
    pub time_limit : time ≤ MOST_ARRIVAL + turn * MOST_COST
    time_limit = by (cases_lt (MOST_ARRIVAL + turn * MOST_COST) time)
      where
        ready : ready_time table scenario schedule job ≤ MOST_ARRIVAL + turn * MOST_COST
        ready =
            let released : release_of scenario job ≤ MOST_ARRIVAL + turn * MOST_COST = omega (arith, (fits.each job is_job).not_after, (is_table.jobs job no_job is_job).arrival_limit) in
            ready_by table scenario is_table fits schedule job (MOST_ARRIVAL + turn * MOST_COST) released
            (λ k below. stands.finish_limit (get_or (predecessors table job) k 0) (predecessors_below table scenario is_table fits job k 0 below)
            (recursion_at (λ i. done i ≡ true) (predecessors table job) k 0 is_turn.can_start.after below))

        by : (MOST_ARRIVAL + turn * MOST_COST < time) ⊎ (time ≤ MOST_ARRIVAL + turn * MOST_COST) → time ≤ MOST_ARRIVAL + turn * MOST_COST
        by (inr h) = h
        by (inl late) =
            let busy = is_turn.earliest job (MOST_ARRIVAL + turn * MOST_COST) stands.clock_limit late
            (record { is_job = is_job; waits = is_turn.can_start.waits; after = is_turn.can_start.after; ready = ready }) core is_turn.in_range in
            absurd (omega (arith, busy.running.1, stands.finish_limit busy.by busy.is_job busy.is_done))

    pub cost_limit : cost_of scenario job ≤ MOST_COST
    cost_limit = omega (arith, (fits.each job is_job).at_most, (is_table.jobs job no_job is_job).cost_limit)

    module _ (done_more : ℕ → Bool) (more : List Place) (adds : Adds done schedule job core time done_more more) where
      was_done : (i : ℕ) → done_more i ≡ true → (i ≡ job) ⊎ ((i ≢ job) × (done i ≡ true))
      was_done i h = by (cases_eq i job)
        where
          by : (i ≡ job) ⊎ (i ≢ job) → (i ≡ job) ⊎ ((i ≢ job) × (done i ≡ true))
          by (inl e) = inl e
          by (inr differ) = inr (differ, sym (adds.other_done i differ) ∙ h)

      not_job : (i : ℕ) → done i ≡ true → i ≢ job
      not_job i h e = true≢false (sym h ∙ ap done e ∙ is_turn.can_start.waits)

      finish_of_job : finish_of scenario more job ≡ time + cost_of scenario job
      finish_of_job = ap (λ s. s + cost_of scenario job) adds.starts

      finish_kept : (i : ℕ) → i ≢ job → finish_of scenario more i ≡ finish_of scenario schedule i
      finish_kept i differ = ap (λ s. s + cost_of scenario i) (adds.other_start i differ)

      -- a turn keeps what the loop keeps
      pub IsUnderway-more : IsUnderway table m scenario done_more more time (turn + 1)
      IsUnderway-more = record {
        part = part_more table m scenario is_table fits done schedule clock stands.part job core time is_turn done_more more adds;
        clock_limit = omega (arith, time_limit);
        finish_limit = λ i is_one h. by i (was_done i h) is_one;
        left = omega (arith, stands.left, undone_less done done_more job (length table.jobs) is_job is_turn.can_start.waits adds.is_done adds.other_done);
      }
        where
          by : (i : ℕ) → (i ≡ job) ⊎ ((i ≢ job) × (done i ≡ true)) → i < length table.jobs → finish_of scenario more i ≤ MOST_ARRIVAL + (turn + 1) * MOST_COST
          by i (inl e) is_one = omega (arith, ap (finish_of scenario more) e, finish_of_job, time_limit, cost_limit)
          by i (inr was) is_one = omega (arith, finish_kept i was.0, stands.finish_limit i is_one was.1)

      module _ (free : List ℕ) (frees : AreFree table m scenario done schedule free) where
        abbrev free_more : List ℕ
        free_more = set free core (time + cost_of scenario job)

        free_there : slice_index free_more core ≡ time + cost_of scenario job
        free_there = get_or-set_same free core (time + cost_of scenario job) 0 (omega (arith, is_turn.in_range, frees.core_count))

        free_other : (c : ℕ) → c ≢ core → slice_index free_more c ≡ slice_index free c
        free_other c differ = get_or-set_other free core c (time + cost_of scenario job) 0 differ

        free_after : (i : ℕ) → i < length table.jobs → done_more i ≡ true → finish_of scenario more i ≤ slice_index free_more (core_of more i)
        free_after i is_one h = by (was_done i h)
          where
            other : (i ≢ job) → done i ≡ true → (core_of schedule i ≡ core) ⊎ (core_of schedule i ≢ core) → finish_of scenario more i ≤ slice_index free_more (core_of more i)
            other differ was (inl e) =
                omega (arith, finish_kept i differ, is_turn.idle i is_one was e, free_there, ap (slice_index free_more) (adds.other_core i differ ∙ e))
            other differ was (inr elsewhere) =
                omega (arith, finish_kept i differ, frees.after i is_one was, free_other (core_of schedule i) elsewhere, ap (slice_index free_more) (adds.other_core i differ))

            by : (i ≡ job) ⊎ ((i ≢ job) × (done i ≡ true)) → finish_of scenario more i ≤ slice_index free_more (core_of more i)
            by (inl e) = omega (arith, ap (finish_of scenario more) e, finish_of_job, free_there, ap (slice_index free_more) (ap (core_of more) e ∙ adds.there))
            by (inr was) = other was.0 was.1 (cases_eq (core_of schedule i) core)

        free_since : (c : ℕ) → c < m → (slice_index free_more c ≡ 0) ⊎ LastOn table scenario done_more more free_more c
        free_since c below = by (cases_eq c core)
          where
            elsewhere : c ≢ core → (slice_index free c ≡ 0) ⊎ LastOn table scenario done schedule free c → (slice_index free_more c ≡ 0) ⊎ LastOn table scenario done_more more free_more c
            elsewhere differ (inl unused) = inl (free_other c differ ∙ unused)
            elsewhere differ (inr last) =
                let apart = not_job last.by last.is_done in
                inr (record {
                  by = last.by;
                  is_job = last.is_job;
                  is_done = adds.other_done last.by apart ∙ last.is_done;
                  there = adds.other_core last.by apart ∙ last.there;
                  until = finish_kept last.by apart ∙ last.until ∙ sym (free_other c differ);
                })

            by : (c ≡ core) ⊎ (c ≢ core) → (slice_index free_more c ≡ 0) ⊎ LastOn table scenario done_more more free_more c
            by (inl e) = inr (record {
              by = job;
              is_job = is_job;
              is_done = adds.is_done;
              there = adds.there ∙ sym e;
              until = finish_of_job ∙ sym free_there ∙ ap (slice_index free_more) (sym e);
            })
            by (inr differ) = elsewhere differ (frees.since c below)

        -- and what is said of the cores
        pub AreFree-more : AreFree table m scenario done_more more free_more
        AreFree-more = record {
          core_count = length-set free core (time + cost_of scenario job) ∙ frees.core_count;
          after = free_after;
          since = free_since;
        }

  -- where no job is left, the places are a legal run
  module _ (whole : length table.jobs ≤ turn) where
    all_done : (j : ℕ) → j < length table.jobs → done j ≡ true
    all_done = undone_none done (length table.jobs) (omega (arith, stands.left, whole))

    pub Legal-from_underway : Legal table m scenario schedule
    Legal-from_underway = Legal-from_part table m scenario is_table fits done schedule clock stands.part all_done

    pub LowestIdle-from_underway : LowestIdle table scenario schedule
    LowestIdle-from_underway = LowestIdle-from_part table m scenario is_table fits done schedule clock stands.part all_done

-- One turn of the loop, over the values that the function has: what it keeps, what `next_turn` found, and the place and the cost
-- with which it goes on.
pub record IsLoopTurn (table : Table) (m : ℕ) (scenario : List (ℕ × ℕ)) (old mid : Queued) (schedule : List Place) (free ends : List ℕ) (clock turn job core time place cost : ℕ) : Type 0 where
  pub is_table : IsTable table
  pub fits : Fits table scenario
  pub keeps : LoopKeeps table m scenario old schedule free clock turn
  pub same : ends ≡ free
  pub next : IsNext table m scenario old ends clock mid (job, core, time)
  pub at : place ≡ job
  pub costs : cost ≡ cost_of scenario job

module _ {table : Table} {m : ℕ} {scenario : List (ℕ × ℕ)} {old mid : Queued} {schedule : List Place} {free ends : List ℕ} {clock turn job core time place cost : ℕ}
    (t : IsLoopTurn table m scenario old mid schedule free ends clock turn job core time place cost) where
  is_next : IsTurn table m scenario (is_dispatched old) schedule clock job core time
  is_next = t.next.turn schedule turn t.keeps.stands (subst (AreFree table m scenario (is_dispatched old) schedule) (sym t.same) t.keeps.frees) t.keeps.counted

  abbrev places : List Place
  places = set schedule place (record { start = time; core = core })

  adds : (done : ℕ → Bool) → ((i : ℕ) → done i ≡ is_dispatched mid i) → Adds (is_dispatched old) schedule job core time done places
  adds done e =
      subst (λ i. Adds (is_dispatched old) schedule job core time done (set schedule i (record { start = time; core = core }))) (sym t.at)
      (Adds-set (is_dispatched old) schedule job core time (omega (arith, t.next.is_job, t.keeps.stands.part.one_each)) done
      (e job ∙ t.next.taken.gone) (λ i differ. e i ∙ t.next.taken.others i differ))

  -- each successor lacks the job
  pub lack_turned : (j : ℕ) → count_by (λ s. s == j) (successors table job) ≤ missing_of mid.readiness j
  lack_turned j =
      omega (
        arith,
        successors_lack table scenario t.is_table t.fits (is_dispatched old) (is_dispatched mid) schedule places job core time (time + cost) is_next.can_start.waits (adds (is_dispatched mid) (λ i. refl)) (ap (λ k. time + k) t.costs) old.readiness t.keeps.counted j,
        ap (λ xs. missing_of xs j) t.next.taken.readiness,
      )

  -- once the queues have walked over the successors of the job, the loop keeps what it did
  pub LoopKeeps-turned : (new : Queued) → Unblocks table mid new (time + cost) (successors table job) → LoopKeeps table m scenario new places (set free core (time + cost)) time (turn + 1)
  LoopKeeps-turned new walked = record {
    stands = IsUnderway-more table m scenario t.is_table t.fits (is_dispatched old) schedule clock turn t.keeps.stands job core time is_next (is_dispatched new) places adds_new;
    frees = subst (λ k. AreFree table m scenario (is_dispatched new) places (set free core (time + k))) (sym t.costs)
        (AreFree-more table m scenario t.is_table t.fits (is_dispatched old) schedule clock turn t.keeps.stands job core time is_next (is_dispatched new) places adds_new free t.keeps.frees);
    counted = AreCounted-more table scenario t.is_table t.fits (is_dispatched old) (is_dispatched new) schedule places job core time (time + cost) is_next.can_start.waits adds_new (ap (λ k. time + k) t.costs) old.readiness t.keeps.counted
        mid new t.next.taken.readiness walked;
    queues = walked.kept time t.next.taken.queues;
  }
    where
      adds_new : Adds (is_dispatched old) schedule job core time (is_dispatched new) places
      adds_new = adds (is_dispatched new) walked.same
