-- What the walk over the successors of a dispatched job keeps.
--     lacks_next          the next of them lacks a predecessor
--     Unblocks-next       one more of them
use Rattle.std.proofs.Common.{◌≡◌, ◌≢◌, ℕ, ◌+◌, ◌<◌, ◌≤◌, ◌⊎◌, inl, inr, Bool, true, false, cond, List, ◌∷◌, length, max, get_or, set, take, refl, sym, ap, ◌∙◌, subst, arith}
use Rattle.std.specs.Prelude.{All, count_by, IsPermutation, MatchBool, ◌==◌, ◌&&◌}
use Rattle.std.specs.declared.cmp.Reverse.{Reverse}
use Rattle.std.proofs.lemmas.Bool.{cases_lt, cases_eq, eq-eqb, eqb-true, ne_eqb, cond-true, cond-false}
use Rattle.std.proofs.lemmas.List.{get_or_past, get_or-set_same, get_or-set_other}
use Rattle.std.proofs.lemmas.List.Elements.{All-cons}
use Rattle.std.proofs.lemmas.List.Sorted.{All-permutation, sum_by_pushed}
use Rattle.std.proofs.lemmas.List.Sums.{sum_by_more, sum_by_more_le}
use Rattle.job_model.specs.Table.{Table}
use Rattle.replay.specs.declared.queues.Arrival.{Arrival}
use Rattle.replay.specs.declared.queues.Readiness.{Readiness}
use Rattle.replay.specs.Queues.{Queued, AreQueued, Counts, IsComing, IsWaiting, Unblocks, copies, is_dispatched, missing_of, no_readiness, one_less, time_of}
use Rattle.replay.proofs.Counted.{raised, raised_none, raised_some}
use Rattle.replay.proofs.InHeaps.{lacks_none, some_copies, some_missing}
use Rattle.lists.proofs.Orderings.{true≢false}

-- what job s lacks, after it is written
lacks_at : (readiness : List Readiness) (s : ℕ) (new : Readiness) → 1 ≤ missing_of readiness s → get_or (set readiness s new) s no_readiness ≡ new
lacks_at readiness s new some = by (cases_lt s (length readiness))
  where
    by : (s < length readiness) ⊎ (length readiness ≤ s) → get_or (set readiness s new) s no_readiness ≡ new
    by (inl below) = get_or-set_same readiness s new no_readiness below
    by (inr past) = absurd (omega (arith, some, ap (λ r. r.missing) (get_or_past readiness s no_readiness past)))

-- one predecessor less is missing to job s
module _ (table : Table) (old new : Queued) (finish s : ℕ) (counts_one : Counts old new finish s) (some : 1 ≤ missing_of old.readiness s) (is_job : s < length table.jobs) where
  here : get_or new.readiness s no_readiness ≡ one_less old.readiness finish s
  here = ap (λ xs. get_or xs s no_readiness) counts_one.readiness ∙ lacks_at old.readiness s (one_less old.readiness finish s) some

  elsewhere : (j : ℕ) → j ≢ s → get_or new.readiness j no_readiness ≡ get_or old.readiness j no_readiness
  elsewhere j differ = ap (λ xs. get_or xs j no_readiness) counts_one.readiness ∙ get_or-set_other old.readiness s j (one_less old.readiness finish s) no_readiness differ

  -- those that lack none are others
  unchanged : (j : ℕ) → missing_of old.readiness j ≡ 0 → get_or new.readiness j no_readiness ≡ get_or old.readiness j no_readiness
  unchanged j none = elsewhere j (λ e. omega (arith, none, some, ap (missing_of old.readiness) e))

  abbrev arrival : Reverse Arrival
  arrival = record { 0 = record { time = max (time_of old.readiness s) finish; no = s } }

  -- how the heap of those that come changes
  abbrev Comes : Type 0
  Comes = ((missing_of old.readiness s ≡ 1) × IsPermutation (arrival ∷ old.later) new.later) ⊎ ((2 ≤ missing_of old.readiness s) × (new.later ≡ old.later))

  comes : Comes
  comes = by (missing_of old.readiness s == 1) refl counts_one.later
    where
      by : (t : Bool) → (missing_of old.readiness s == 1) ≡ t → MatchBool t (IsPermutation (arrival ∷ old.later) new.later) (new.later ≡ old.later) → Comes
      by true e moves = inl (eqb-true (missing_of old.readiness s) 1 e, moves)
      by false e same = inr (at_least_two (cases_eq (missing_of old.readiness s) 1), same)
        where
          at_least_two : (missing_of old.readiness s ≡ 1) ⊎ (missing_of old.readiness s ≢ 1) → 2 ≤ missing_of old.readiness s
          at_least_two (inl one) = absurd (true≢false (sym (eq-eqb (missing_of old.readiness s) 1 one) ∙ e))
          at_least_two (inr differ) = omega (arith, differ, some)

  copies_last : IsPermutation (arrival ∷ old.later) new.later → (j : ℕ) → copies new j ≡ cond (s == j) 1 0 + copies old j
  copies_last moves j =
      omega (
        arith,
        sum_by_pushed (λ e. cond (e.0.no == j) 1 0) arrival old.later new.later moves,
        ap (λ xs. count_by (λ e. e.0.no == j) xs) counts_one.waiting,
      )

  copies_same : new.later ≡ old.later → (j : ℕ) → copies new j ≡ copies old j
  copies_same e j = omega (arith, ap (λ xs. count_by (λ e. e.0.no == j) xs) e, ap (λ xs. count_by (λ e. e.0.no == j) xs) counts_one.waiting)

  one_at : (j : ℕ) → s ≡ j → ◌≡◌ {A = ℕ} (cond (s == j) 1 0) 1
  one_at j e = cond-true (s == j) 1 0 (eq-eqb s j e)

  none_at : (j : ℕ) → s ≢ j → ◌≡◌ {A = ℕ} (cond (s == j) 1 0) 0
  none_at j differ = cond-false (s == j) 1 0 (ne_eqb s j differ)

  -- no job is dispatched by it
  same_done : (j : ℕ) → is_dispatched new j ≡ is_dispatched old j
  same_done j = by (cases_eq s j) comes
    where
      both : (j : ℕ) → s ≢ j → copies new j ≡ copies old j → is_dispatched new j ≡ is_dispatched old j
      both j differ e =
          ap (λ n. (n == 0) && (missing_of new.readiness j == 0)) e
          ∙ ap (λ r. (copies old j == 0) && (r.missing == 0)) (elsewhere j (λ same. differ (sym same)))

      waits : (j : ℕ) → s ≡ j → is_dispatched old j ≡ false
      waits j e = some_missing old j (omega (arith, some, ap (missing_of old.readiness) e))

      by : (s ≡ j) ⊎ (s ≢ j) → Comes → is_dispatched new j ≡ is_dispatched old j
      by (inl e) (inl last) = some_copies new j (omega (arith, copies_last last.1 j, one_at j e)) ∙ sym (waits j e)
      by (inl e) (inr more) =
          some_missing new j (omega (arith, more.0, ap (λ r. r.missing) here, ap (missing_of new.readiness) e)) ∙ sym (waits j e)
      by (inr differ) (inl last) = both j differ (omega (arith, copies_last last.1 j, none_at j differ))
      by (inr differ) (inr more) = both j differ (copies_same more.1 j)

  kept_queued : (now : ℕ) → AreQueued table now old → AreQueued table now new
  kept_queued now queues = by comes
    where
      waits_kept : All (IsWaiting table now new.readiness) new.waiting
      waits_kept = subst (All (IsWaiting table now new.readiness)) (sym counts_one.waiting) (λ k d less.
          let waits = queues.waits k d less in
          let same = unchanged _ waits.lacks_none in
          record { is_job = waits.is_job; key = waits.key; lacks_none = ap (λ r. r.missing) same ∙ waits.lacks_none; ready = omega (arith, waits.ready, ap (λ r. r.time) same) })

      comes_kept : All (IsComing table new.readiness) old.later
      comes_kept k d less =
          let comes = queues.comes k d less in
          let same = unchanged _ comes.lacks_none in
          record { is_job = comes.is_job; lacks_none = ap (λ r. r.missing) same ∙ comes.lacks_none; time = comes.time ∙ sym (ap (λ r. r.time) same) }

      none_yet : copies old s ≡ 0
      none_yet = zero (cases_lt 0 (copies old s))
        where
          zero : (0 < copies old s) ⊎ (copies old s ≤ 0) → copies old s ≡ 0
          zero (inl there) = absurd (omega (arith, some, lacks_none table now old queues s (omega (arith, there))))
          zero (inr none) = omega (arith, none)

      once : IsPermutation (arrival ∷ old.later) new.later → (j : ℕ) → (s ≡ j) ⊎ (s ≢ j) → copies new j ≤ 1
      once moves j (inl e) = omega (arith, copies_last moves j, one_at j e, none_yet, ap (copies old) e)
      once moves j (inr differ) = omega (arith, copies_last moves j, none_at j differ, queues.once j)

      by : Comes → AreQueued table now new
      by (inl last) = record {
        waits = waits_kept;
        comes = All-permutation (IsComing table new.readiness) _ _ last.1
            (All-cons (IsComing table new.readiness) _ _ (record { is_job = is_job; lacks_none = omega (arith, last.0, ap (λ r. r.missing) here); time = sym (ap (λ r. r.time) here) }) comes_kept);
        once = λ j. once last.1 j (cases_eq s j);
      }
      by (inr more) = record {
        waits = waits_kept;
        comes = subst (All (IsComing table new.readiness)) (sym more.1) comes_kept;
        once = λ j. omega (arith, copies_same more.1 j, queues.once j);
      }

  -- one more of the jobs that are walked over
  Unblocks-more : (first : Queued) (jobs more : List ℕ) → Unblocks table first old finish jobs →
      ((j : ℕ) → count_by (λ i. i == j) more ≡ count_by (λ i. i == j) jobs + cond (s == j) 1 0) → Unblocks table first new finish more
  Unblocks-more first jobs more walked longer = record {
    missing = λ j. missing j (cases_eq s j);
    time = λ j. time j (cases_eq s j) (cases_lt 0 (count_by (λ i. i == j) jobs));
    same = λ j. same_done j ∙ walked.same j;
    kept = λ now queues. kept_queued now (walked.kept now queues);
  }
    where
      missing : (j : ℕ) → (s ≡ j) ⊎ (s ≢ j) → missing_of new.readiness j + count_by (λ i. i == j) more ≡ missing_of first.readiness j
      missing j (inl e) =
          omega (arith, walked.missing j, longer j, one_at j e, some, ap (λ r. r.missing) here, ap (missing_of new.readiness) e, ap (missing_of old.readiness) e)
      missing j (inr differ) = omega (arith, walked.missing j, longer j, none_at j differ, ap (λ r. r.missing) (elsewhere j (λ e. differ (sym e))))

      -- at s itself it is raised, whether it was before or not
      time_at : (j : ℕ) → s ≡ j → (0 < count_by (λ i. i == j) jobs) ⊎ (count_by (λ i. i == j) jobs ≤ 0) → time_of new.readiness j ≡ max (time_of first.readiness j) finish
      time_at j e (inl there) =
          omega (arith, walked.time j, raised_some (count_by (λ i. i == j) jobs) finish (time_of first.readiness j) there, ap (λ r. r.time) here, ap (time_of new.readiness) e, ap (time_of old.readiness) e)
      time_at j e (inr none) =
          omega (arith, walked.time j, raised_none (count_by (λ i. i == j) jobs) finish (time_of first.readiness j) (omega (arith, none)), ap (λ r. r.time) here, ap (time_of new.readiness) e, ap (time_of old.readiness) e)

      time : (j : ℕ) → (s ≡ j) ⊎ (s ≢ j) → (0 < count_by (λ i. i == j) jobs) ⊎ (count_by (λ i. i == j) jobs ≤ 0) →
          time_of new.readiness j ≡ raised (count_by (λ i. i == j) more) finish (time_of first.readiness j)
      time j (inl e) h = time_at j e h ∙ sym (raised_some (count_by (λ i. i == j) more) finish (time_of first.readiness j) (omega (arith, longer j, one_at j e)))
      time j (inr differ) h =
          let same : count_by (λ i. i == j) more ≡ count_by (λ i. i == j) jobs = omega (arith, longer j, none_at j differ) in
          ap (λ r. r.time) (elsewhere j (λ e. differ (sym e))) ∙ walked.time j ∙ ap (λ n. raised n finish (time_of first.readiness j)) (sym same)

-- the walk over a list of them, at place k
module _ (table : Table) (old mid : Queued) (finish : ℕ) (jobs : List ℕ) (k s : ℕ) (less : k < length jobs) (at : s ≡ get_or jobs k s) (walked : Unblocks table old mid finish (take k jobs)) where
  pub lacks_next : ((j : ℕ) → count_by (λ i. i == j) jobs ≤ missing_of old.readiness j) → 1 ≤ missing_of mid.readiness s
  lacks_next lack =
      let one : ◌≡◌ {A = ℕ} (cond (get_or jobs k s == s) 1 0) 1 = cond-true (get_or jobs k s == s) 1 0 (eq-eqb (get_or jobs k s) s (sym at)) in
      omega (arith, one, sum_by_more_le (λ i. cond (i == s) 1 0) jobs k s less, walked.missing s, lack s)

  pub Unblocks-next : (new : Queued) → Counts mid new finish s → 1 ≤ missing_of mid.readiness s → s < length table.jobs → Unblocks table old new finish (take (k + 1) jobs)
  Unblocks-next new counts_one some is_job =
      Unblocks-more table mid new finish s counts_one some is_job old (take k jobs) (take (k + 1) jobs) walked
      (λ j. sum_by_more (λ i. cond (i == j) 1 0) jobs k s less ∙ ap (λ i. count_by (λ x. x == j) (take k jobs) + cond (i == j) 1 0) (sym at))
