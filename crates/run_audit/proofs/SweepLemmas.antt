-- From start to start: the first time at which a job waits although it need not.
use Rattle.std.proofs.Common.{◌≡◌, ℕ, ◌+◌, ◌<◌, ◌≤◌, ◌⊎◌, inl, inr, List, length, max, refl, sym, ap, ◌∙◌, subst, arith, Option, Some, None}
use Rattle.std.specs.Prelude.{slice_index}
use Rattle.std.proofs.lemmas.Bool.{cases_lt}
use Rattle.run_audit.specs.declared.entries.Entry.{Entry}
use Rattle.run_audit.specs.Entries.{core_at, finish_at, rank_at, ready_at, start_at}
use Rattle.run_audit.specs.Firsts.{IsAmongFirst}
use Rattle.run_audit.specs.Orders.{IsBefore, IsOrder, job_in, time_in}
use Rattle.run_audit.specs.Waits.{AreCoreEnds, FindsWaiter, IsLeastEnd, IsFirstUnheld, IsIdle, IsNextTime, IsPassed, IsTimeBefore, IsUnheld, PassesOver, SomeIsIdle, HasAllReady, Waiting, Waits, next_of}
use Rattle.run_audit.proofs.FirstLemmas.{done_more}

module _ (entries : List Entry) (m : ℕ) (order by_ready : List (ℕ × ℕ)) where
  -- The first k jobs have started by now, the others start from now on; no job has waited before now although it
  -- need not, nor does one wait now that is passed over by one of the first k.
  pub record Sweeps (k now : ℕ) (first : Option ℕ) (ends : List ℕ) (w : Waiting) : Type 0 where
    pub early : (p : ℕ) → p < k → p < length order → time_in order p ≤ now
    pub late : (p : ℕ) → k ≤ p → p < length order → now ≤ time_in order p
    pub free : AreCoreEnds entries m (IsAmongFirst order k) ends
    pub stands : HasAllReady entries by_ready now w
    pub waiter : FindsWaiter entries now first
    pub clean : (j u : ℕ) → j < length entries → u < now → ¬ IsUnheld entries m j u
    pub passed : (i j : ℕ) → IsAmongFirst order k i → start_at entries i ≡ now → j < length entries → Waits entries j now → ¬ (rank_at entries j ≤ rank_at entries i)

module _ (entries : List Entry) (m : ℕ) (order by_ready : List (ℕ × ℕ)) (starts : IsOrder (start_at entries) (length entries) order) (readies : IsOrder (ready_at entries) (length entries) by_ready)
    (after_ready : (j : ℕ) → j < length entries → ready_at entries j ≤ start_at entries j) where
  -- job i starts at the time of its place
  start_in : (p i : ℕ) → p < length order → job_in order p ≡ i → time_in order p ≡ start_at entries i
  start_in p i below is = starts.own p below ∙ ap (start_at entries) is

  times_rise : (p q : ℕ) → p < q → q < length order → time_in order p ≤ time_in order q
  times_rise p q less below = by (starts.rising p q less below)
    where
      by : IsBefore (time_in order p) (job_in order p) (time_in order q) (job_in order q) → time_in order p ≤ time_in order q
      by (inl before) = omega (arith, before)
      by (inr same) = omega (arith, same.0)

  times_up : (p q : ℕ) → p ≤ q → q < length order → time_in order p ≤ time_in order q
  times_up p q from below = by (cases_lt p q)
    where
      by : (p < q) ⊎ (q ≤ p) → time_in order p ≤ time_in order q
      by (inl less) = times_rise p q less below
      by (inr back) = let e : p ≡ q = omega (arith, from, back) in omega (arith, ap (time_in order) e)

  module _ (k now : ℕ) (first : Option ℕ) (ends : List ℕ) (w : Waiting) (sweeps : Sweeps entries m order by_ready k now first ends w) where
    -- what starts before the next place is done
    done_before : (i : ℕ) → i < length entries → (k < length order → start_at entries i < time_in order k) → IsAmongFirst order k i
    done_before i is_job before = by (starts.place i is_job)
      where
        by : (p : ℕ) × (p < length order) × (job_in order p ≡ i) → IsAmongFirst order k i
        by (p, there, is) = pick (cases_lt p k)
          where
            pick : (p < k) ⊎ (k ≤ p) → IsAmongFirst order k i
            pick (inl less) = (p, less, there, is)
            pick (inr from) = absurd (omega (arith, before (omega (arith, from, there)), times_up k p from there, start_in p i there is))

    done_by_now : (i : ℕ) → IsAmongFirst order k i → start_at entries i ≤ now
    done_by_now i (p, less, there, is) = omega (arith, sweeps.early p less there, start_in p i there is)

    -- what starts after now starts from the next place on
    starts_later : (j : ℕ) → j < length entries → now < start_at entries j → k < length order → time_in order k ≤ start_at entries j
    starts_later j is_job after more = by (starts.place j is_job)
      where
        by : (p : ℕ) × (p < length order) × (job_in order p ≡ j) → time_in order k ≤ start_at entries j
        by (p, there, is) = pick (cases_lt p k)
          where
            pick : (p < k) ⊎ (k ≤ p) → time_in order k ≤ start_at entries j
            pick (inl less) = absurd (omega (arith, after, sweeps.early p less there, start_in p j there is))
            pick (inr from) = omega (arith, times_up k p from there, start_in p j there is)

    -- ---- a core is idle exactly from the first free one on, up to the next start
    module _ (free : ℕ) (is_free : IsLeastEnd ends free) where
      idle_from : (u : ℕ) → (k < length order → u < time_in order k) → free ≤ u → SomeIsIdle entries m u
      idle_from u before from = record { core = is_free.0.0; in_range = omega (arith, is_free.0.1, sweeps.free.each_core); idle = idle }
        where
          idle : IsIdle entries is_free.0.0 u
          idle i runs =
              let done = done_before i runs.is_job (λ more. omega (arith, before more, runs.started)) in
              let last : finish_at entries i ≤ slice_index ends (core_at entries i) = sweeps.free.last i done (omega (arith, runs.there, is_free.0.1, sweeps.free.each_core)) in
              let at : slice_index ends (core_at entries i) ≡ slice_index ends is_free.0.0 = ap (slice_index ends) runs.there in
              omega (arith, last, at, is_free.0.2, from, runs.unfinished)

      free_by : (u : ℕ) → now ≤ u → SomeIsIdle entries m u → free ≤ u
      free_by u from some = by (sweeps.free.there some.core some.in_range)
        where
          least : free ≤ slice_index ends some.core
          least = is_free.1 some.core (omega (arith, some.in_range, sweeps.free.each_core))

          by : (slice_index ends some.core ≡ 0) ⊎ ((i : ℕ) × IsAmongFirst order k i × (core_at entries i ≡ some.core) × (finish_at entries i ≡ slice_index ends some.core)) → free ≤ u
          by (inl none) = omega (arith, least, none)
          by (inr (i, done, at, is)) = pick (cases_lt u (finish_at entries i))
            where
              is_job : IsAmongFirst order k i → i < length entries
              is_job (p, less, there, is_it) = subst (λ x. x < length entries) is_it (starts.is_job p there)

              pick : (u < finish_at entries i) ⊎ (finish_at entries i ≤ u) → free ≤ u
              pick (inl runs) = absurd (some.idle i (record { is_job = is_job done; there = at; started = omega (arith, done_by_now i done, from); unfinished = runs }))
              pick (inr over) = omega (arith, least, is, over)

      -- nobody waits in vain before then, up to the next start
      module _ (next : Option ℕ) (is_next : (j : ℕ) → j < length entries → now < start_at entries j → (r : ℕ) × (next ≡ Some r) × (r ≤ max now (ready_at entries j))) where
        forced : (j u : ℕ) → j < length entries → now ≤ u → (k < length order → u < time_in order k) → IsUnheld entries m j u → (r : ℕ) × (next ≡ Some r) × (max free r ≤ u)
        forced j u is_job from before unheld = by unheld.needless
          where
            ready : (r : ℕ) × (next ≡ Some r) × (r ≤ max now (ready_at entries j))
            ready = is_next j is_job (omega (arith, from, unheld.waits.1))

            by : SomeIsIdle entries m u ⊎ PassesOver entries j u → (r : ℕ) × (next ≡ Some r) × (max free r ≤ u)
            by (inl idle) = (ready.0, ready.1, omega (arith, free_by u from idle, ready.2, unheld.waits.0, from))
            by (inr over) =
                let done = done_before over.by over.is_job (λ more. omega (arith, before more, over.starts)) in
                let e : u ≡ now = omega (arith, done_by_now over.by done, over.starts, from) in
                absurd (sweeps.passed over.by j done (over.starts ∙ e) is_job (omega (arith, unheld.waits.0, e), omega (arith, unheld.waits.1, e)) over.not_urgent)

        -- so all is well up to a time, if a core is not free and a job not ready before it
        pub clean_until : (t : ℕ) → (k < length order → t ≤ time_in order k) → ((r : ℕ) → next ≡ Some r → t ≤ max free r) → (j u : ℕ) → j < length entries → u < t → ¬ IsUnheld entries m j u
        clean_until t before bound j u is_job less unheld = by (cases_lt u now)
          where
            by : (u < now) ⊎ (now ≤ u) → ⊥
            by (inl early) = sweeps.clean j u is_job early unheld
            by (inr from) =
                let f = forced j u is_job from (λ more. omega (arith, before more, less)) unheld in
                omega (arith, f.2, bound f.0 f.1, less)

    -- ---- when the next job is ready
    pub next_ready : (next : Option ℕ) → IsNextTime by_ready w.passed next → (j : ℕ) → j < length entries → now < start_at entries j →
        (r : ℕ) × (next_of first now next ≡ Some r) × (r ≤ max now (ready_at entries j))
    next_ready next is_next j is_job after = by first sweeps.waiter next is_next
      where
        by : (first : Option ℕ) → FindsWaiter entries now first → (next : Option ℕ) → IsNextTime by_ready w.passed next → (r : ℕ) × (next_of first now next ≡ Some r) × (r ≤ max now (ready_at entries j))
        by (Some i) finds next is_next = (now, refl, omega arith)
        by None none next is_next = at (readies.place j is_job)
          where
            later : now < ready_at entries j
            later = pick (cases_lt now (ready_at entries j))
              where
                pick : (now < ready_at entries j) ⊎ (ready_at entries j ≤ now) → now < ready_at entries j
                pick (inl less) = less
                pick (inr ready) = absurd (none j is_job (ready, after))

            at : (p : ℕ) × (p < length by_ready) × (job_in by_ready p ≡ j) → (r : ℕ) × (next ≡ Some r) × (r ≤ max now (ready_at entries j))
            at (p, there, is) = pick (cases_lt p w.passed)
              where
                time : time_in by_ready p ≡ ready_at entries j
                time = readies.own p there ∙ ap (ready_at entries) is

                found : w.passed ≤ p → (next : Option ℕ) → IsNextTime by_ready w.passed next → (r : ℕ) × (next ≡ Some r) × (r ≤ max now (ready_at entries j))
                found from None is_next = absurd (omega (arith, from, there, is_next))
                found from (Some r) is_next = (r, refl, omega (arith, is_next.1, up (cases_lt w.passed p), time))
                  where
                    up : (w.passed < p) ⊎ (p ≤ w.passed) → time_in by_ready w.passed ≤ time_in by_ready p
                    up (inl less) = rise (readies.rising w.passed p less there)
                      where
                        rise : IsBefore (time_in by_ready w.passed) (job_in by_ready w.passed) (time_in by_ready p) (job_in by_ready p) → time_in by_ready w.passed ≤ time_in by_ready p
                        rise (inl before) = omega (arith, before)
                        rise (inr same) = omega (arith, same.0)
                    up (inr back) = let e : w.passed ≡ p = omega (arith, from, back) in omega (arith, ap (time_in by_ready) e)

                pick : (p < w.passed) ⊎ (w.passed ≤ p) → (r : ℕ) × (next ≡ Some r) × (r ≤ max now (ready_at entries j))
                pick (inl was) = absurd (omega (arith, sweeps.stands.holds.ready p was, time, later))
                pick (inr from) = found from next is_next

    -- that time is not before now, and a job is ready then that starts later
    pub ready_there : (next : Option ℕ) → IsNextTime by_ready w.passed next → (r : ℕ) → next_of first now next ≡ Some r →
        (now ≤ r) × ((j : ℕ) × (j < length entries) × (now < start_at entries j) × (ready_at entries j ≤ r))
    ready_there next is_next r e = by first sweeps.waiter next is_next e
      where
        by : (first : Option ℕ) → FindsWaiter entries now first → (next : Option ℕ) → IsNextTime by_ready w.passed next → next_of first now next ≡ Some r →
            (now ≤ r) × ((j : ℕ) × (j < length entries) × (now < start_at entries j) × (ready_at entries j ≤ r))
        by (Some j) finds next is_next e =
            let is : ◌≡◌ {A = ℕ} now r = cc in
            (omega (arith, is), (j, finds.is_job, finds.waits.1, omega (arith, finds.waits.0, is)))
        by None none None is_next e = cc
        by None none (Some t) is_next e =
            let is : ◌≡◌ {A = ℕ} t r = cc in
            let j = job_in by_ready w.passed in
            let is_job : j < length entries = readies.is_job w.passed is_next.0 in
            let late : now < time_in by_ready w.passed = sweeps.stands.rest w.passed (omega arith) is_next.0 in
            let own : time_in by_ready w.passed ≡ ready_at entries j = readies.own w.passed is_next.0 in
            (omega (arith, late, is_next.1, is), (j, is_job, omega (arith, late, own, after_ready j is_job), omega (arith, own, is_next.1, is)))

    -- ---- the two ends of a turn where a job waits in vain
    pub waits_idle : (free : ℕ) (next : Option ℕ) (r t : ℕ) → IsLeastEnd ends free → IsNextTime by_ready w.passed next → next_of first now next ≡ Some r → t ≡ max free r → k < length order → t < time_in order k → IsFirstUnheld entries m t
    waits_idle free next r t is_free is_next e is more before =
        let there = ready_there next is_next r e in
        record {
          there = (
            there.1.0,
            there.1.1,
            record {
              waits = (omega (arith, there.1.3, is), omega (arith, before, starts_later there.1.0 there.1.1 there.1.2 more));
              needless = inl (idle_from free is_free t (λ _. before) (omega (arith, is)));
            },
          );
          first = clean_until free is_free (next_of first now next) (next_ready next is_next) t (λ _. omega (arith, before))
              (λ x f. let same : ◌≡◌ {A = ℕ} x r = cc in omega (arith, is, same));
        }

    -- all is well up to the next start
    pub clean_to_start : (free : ℕ) (next : Option ℕ) → IsLeastEnd ends free → IsNextTime by_ready w.passed next → k < length order →
        ((r : ℕ) → next_of first now next ≡ Some r → time_in order k ≤ max free r) → (j u : ℕ) → j < length entries → u < time_in order k → ¬ IsUnheld entries m j u
    clean_to_start free next is_free is_next more bound = clean_until free is_free (next_of first now next) (next_ready next is_next) (time_in order k) (λ _. omega arith) bound

    -- a job waits that is more urgent than the one that starts
    pub waits_passed : (t other : ℕ) → k < length order → t ≡ time_in order k → ((j u : ℕ) → j < length entries → u < time_in order k → ¬ IsUnheld entries m j u) →
        FindsWaiter entries t (Some other) → rank_at entries other ≤ rank_at entries (job_in order k) → IsFirstUnheld entries m t
    waits_passed t other more is clean finds up = record {
      there = (
        other,
        finds.is_job,
        record {
          waits = finds.waits;
          needless = inr (record { by = job_in order k; is_job = starts.is_job k more; starts = sym (starts.own k more) ∙ sym is; not_urgent = up });
        },
      );
      first = λ j u is_job less. clean j u is_job (omega (arith, less, is));
    }

    -- the next turn
    pub Sweeps-more : (t : ℕ) (then : Option ℕ) (new_ends : List ℕ) (v : Waiting) → k < length order → t ≡ time_in order k → ((j u : ℕ) → j < length entries → u < time_in order k → ¬ IsUnheld entries m j u) →
        HasAllReady entries by_ready t v → FindsWaiter entries t then → ((other : ℕ) → then ≡ Some other → rank_at entries (job_in order k) < rank_at entries other) →
        AreCoreEnds entries m (IsAmongFirst order (k + 1)) new_ends → Sweeps entries m order by_ready (k + 1) t then new_ends v
    Sweeps-more t then new_ends v more is clean stands finds urgent are = record {
      early = λ p less below. omega (arith, is, times_up p k (omega (arith, less)) more);
      late = λ p from below. omega (arith, is, times_up k p (omega (arith, from)) below);
      free = are;
      stands = stands;
      waiter = finds;
      clean = λ j u is_job less. clean j u is_job (omega (arith, less, is));
      passed = λ i j done starts_now is_job waits. by i j (done_more order k i done) starts_now is_job waits then finds urgent;
    }
      where
        by : (i j : ℕ) → IsAmongFirst order k i ⊎ (i ≡ job_in order k) → start_at entries i ≡ t → j < length entries → Waits entries j t → (then : Option ℕ) → FindsWaiter entries t then →
            ((other : ℕ) → then ≡ Some other → rank_at entries (job_in order k) < rank_at entries other) → ¬ (rank_at entries j ≤ rank_at entries i)
        by i j (inl was) starts_now is_job waits then finds urgent up =
            let e : t ≡ now = omega (arith, starts_now, done_by_now i was, is, sweeps.late k (omega arith) more) in
            sweeps.passed i j was (starts_now ∙ e) is_job (omega (arith, waits.0, e), omega (arith, waits.1, e)) up
        by i j (inr own) starts_now is_job waits None finds urgent up = finds j is_job waits
        by i j (inr own) starts_now is_job waits (Some other) finds urgent up =
            omega (arith, finds.first j is_job waits, urgent other refl, ap (rank_at entries) own, up)

    -- after the last one
    pub Sweeps-end : length order ≤ k → (j u : ℕ) → j < length entries → ¬ IsUnheld entries m j u
    Sweeps-end all j u is_job unheld = by (starts.place j is_job)
      where
        by : (p : ℕ) × (p < length order) × (job_in order p ≡ j) → ⊥
        by (p, there, is) =
            sweeps.clean j u is_job (omega (arith, unheld.waits.1, sweeps.early p (omega (arith, there, all)) there, start_in p j there is)) unheld

  -- at first
  pub Sweeps-none : (first : Option ℕ) (ends : List ℕ) (w : Waiting) → AreCoreEnds entries m (IsAmongFirst order 0) ends → HasAllReady entries by_ready 0 w → FindsWaiter entries 0 first → Sweeps entries m order by_ready 0 0 first ends w
  Sweeps-none first ends w are stands finds = record {
    early = λ p less below. absurd (omega (arith, less));
    late = λ p from below. omega arith;
    free = are;
    stands = stands;
    waiter = finds;
    clean = λ j u is_job less. absurd (omega (arith, less));
    passed = λ i j done starts_now is_job waits up. none i done;
  }
    where
      none : (i : ℕ) → IsAmongFirst order 0 i → ⊥
      none i (p, less, there, is) = omega (arith, less)

-- whether one that waits is more urgent
pub urgent_unless : (entries : List Entry) (then : Option ℕ) (j : ℕ) → ¬ IsPassed entries then j → (other : ℕ) → then ≡ Some other → rank_at entries j < rank_at entries other
urgent_unless entries None j not other e = cc
urgent_unless entries (Some x) j not other e =
    let is : ◌≡◌ {A = ℕ} x other = cc in
    up (cases_lt (rank_at entries j) (rank_at entries other)) is
  where
    up : (rank_at entries j < rank_at entries other) ⊎ (rank_at entries other ≤ rank_at entries j) → x ≡ other → rank_at entries j < rank_at entries other
    up (inl less) is = less
    up (inr more) is = absurd (not (omega (arith, more, ap (rank_at entries) is)))

module _ (entries : List Entry) (m : ℕ) (order by_ready : List (ℕ × ℕ)) (starts : IsOrder (start_at entries) (length entries) order) (readies : IsOrder (ready_at entries) (length entries) by_ready)
    (after_ready : (j : ℕ) → j < length entries → ready_at entries j ≤ start_at entries j) (k now : ℕ) (first : Option ℕ) (ends : List ℕ) (w : Waiting) (sweeps : Sweeps entries m order by_ready k now first ends w)
    (more : k < length order) (free : ℕ) (next : Option ℕ) (is_free : IsLeastEnd ends free) (is_next : IsNextTime by_ready w.passed next) (from : Option ℕ) (is_from : from ≡ next_of first now next) where
  -- the turn ends between two starts
  pub turn_idle : (start t : ℕ) → start ≡ time_in order k → IsTimeBefore free from start (Some t) → IsFirstUnheld entries m t
  turn_idle start t at before =
      waits_idle entries m order by_ready starts readies after_ready k now first ends w sweeps free next before.0 t is_free is_next (sym is_from ∙ before.1) before.2 more (omega (arith, before.3, at))

  turn_clean : (start : ℕ) → start ≡ time_in order k → IsTimeBefore free from start None → (j u : ℕ) → j < length entries → u < time_in order k → ¬ IsUnheld entries m j u
  turn_clean start at none = clean_to_start entries m order by_ready starts readies after_ready k now first ends w sweeps free next is_free is_next more (λ r e. omega (arith, at, none r (is_from ∙ e)))

  -- it ends at the start
  pub turn_passed : (start j : ℕ) (then : Option ℕ) → start ≡ time_in order k → j ≡ job_in order k → IsTimeBefore free from start None → FindsWaiter entries start then → IsPassed entries then j → IsFirstUnheld entries m start
  turn_passed start j None at own none finds passed = absurd passed
  turn_passed start j (Some other) at own none finds passed =
      waits_passed entries m order by_ready starts readies after_ready k now first ends w sweeps start other more at (turn_clean start at none) finds (omega (arith, passed, ap (rank_at entries) own))

  -- it goes on
  pub turn_more : (start j : ℕ) (then : Option ℕ) (new_ends : List ℕ) (v : Waiting) → start ≡ time_in order k → j ≡ job_in order k → IsTimeBefore free from start None → HasAllReady entries by_ready start v →
      FindsWaiter entries start then → ¬ IsPassed entries then j → AreCoreEnds entries m (IsAmongFirst order (k + 1)) new_ends → Sweeps entries m order by_ready (k + 1) start then new_ends v
  turn_more start j then new_ends v at own none stands finds not are =
      Sweeps-more entries m order by_ready starts readies after_ready k now first ends w sweeps start then new_ends v more at (turn_clean start at none) stands finds
      (λ other e. omega (arith, urgent_unless entries then j not other e, ap (rank_at entries) own)) are
