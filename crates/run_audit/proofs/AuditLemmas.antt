-- What an audit finds of the entries is what is said of the schedule.
use Rattle.std.proofs.Common.{◌≡◌, ◌≢◌, ℕ, zero, suc, ◌<◌, ◌≤◌, ◌⊎◌, inl, inr, true, false, List, length, refl, sym, ap, ◌∙◌, subst, arith, Option, Some, None}
use Rattle.std.specs.Prelude.{IsTrue, IfOk, Result, Ok, Err}
use Rattle.std.specs.declared.alloc.AllocError.{AllocError}
use Rattle.std.proofs.lemmas.Bool.{cases_lt, cases_order, le-ltb, lt-ltb, ltb-false}
use Rattle.std.proofs.lemmas.List.FromFn.{get_or-map-range_with_len, length-range_with_len}
use Rattle.std.proofs.lemmas.List.{length-map}
use Rattle.lists.specs.Numbers.{numbers_below}
use Rattle.job_model.specs.Laws.{RanksOrderJobs}
use Rattle.job_model.specs.Ranks.{rank_of}
use Rattle.job_model.specs.Table.{Table, IsTable, has_urgency_over}
use Rattle.run_meaning.specs.declared.places.Place.{Place}
use Rattle.run_meaning.specs.Ready.{start_of, core_of, finish_of, ready_time}
use Rattle.run_meaning.specs.Legal.{Legal, IsBusy}
use Rattle.run_audit.specs.declared.broken.Rule.{Rule}
use Rattle.run_audit.specs.declared.broken.Rule.TheVariants.{L0, L1, L2, L3}
use Rattle.run_audit.specs.declared.broken.Break.{Break}
use Rattle.run_audit.specs.declared.entries.Entry.{Entry}
use Rattle.run_audit.specs.Breaks.{FindsBreak, FindsWait, IsFound, StartsWell}
use Rattle.run_audit.specs.Entries.{core_at, entries_of_run, entry_at, entry_of_job, finish_at, no_entry, rank_at, ready_at, start_at}
use Rattle.run_audit.specs.FirstBreak.{Audits, Breaks, HasIdleCore, IsFirstBreak, IsInterrupted, IsPassedOver, rule_index}
use Rattle.run_audit.specs.Firsts.{FindsFirst, IsCutOff, IsFirst, IsOffCores, IsTooEarly}
use Rattle.run_audit.specs.Orders.{IsBefore}
use Rattle.run_audit.specs.Waits.{FindsUnheld, IsFirstJob, IsFirstUnheld, IsUnheld, PassesOver, RunsOn, SomeIsIdle}

pub few_entries : (table : Table) (scenario : List (ℕ × ℕ)) (schedule : List Place) (entries : List Entry) → entries ≡ entries_of_run table scenario schedule → length entries ≡ length table.jobs
few_entries table scenario schedule entries e =
    ap length e ∙ length-map (numbers_below (length table.jobs)) (entry_of_job table scenario schedule) ∙ length-range_with_len 0 (length table.jobs)

-- the first entry that runs on the core then, or none
search_runs : (entries : List Entry) (core t k : ℕ) → k ≤ length entries → ((i : ℕ) × RunsOn entries core t i) ⊎ ((i : ℕ) → i < k → ¬ RunsOn entries core t i)
search_runs entries core t zero below = inr (λ i less. absurd (omega (arith, less)))
search_runs entries core t (suc k) below = by (search_runs entries core t k (omega (arith, below)))
  where
    none : ((i : ℕ) → i < k → ¬ RunsOn entries core t i) → ¬ RunsOn entries core t k → (i : ℕ) → i < suc k → ¬ RunsOn entries core t i
    none before not i less = pick (cases_lt i k)
      where
        pick : (i < k) ⊎ (k ≤ i) → ¬ RunsOn entries core t i
        pick (inl was) = before i was
        pick (inr here) = let e : k ≡ i = omega (arith, less, here) in λ runs. not (subst (RunsOn entries core t) (sym e) runs)

    here : ((i : ℕ) → i < k → ¬ RunsOn entries core t i) → (core_at entries k ≡ core) ⊎ ((core_at entries k < core) ⊎ (core < core_at entries k)) → (t < start_at entries k) ⊎ (start_at entries k ≤ t) →
        (t < finish_at entries k) ⊎ (finish_at entries k ≤ t) → ((i : ℕ) × RunsOn entries core t i) ⊎ ((i : ℕ) → i < suc k → ¬ RunsOn entries core t i)
    here before (inl at) (inr starts) (inl ends) = inl (k, record { is_job = omega (arith, below); there = at; started = starts; unfinished = ends })
    here before (inl at) (inr starts) (inr ends) = inr (none before (λ runs. omega (arith, runs.unfinished, ends)))
    here before (inl at) (inl later) any = inr (none before (λ runs. omega (arith, runs.started, later)))
    here before (inr (inl lower)) any other = inr (none before (λ runs. omega (arith, runs.there, lower)))
    here before (inr (inr higher)) any other = inr (none before (λ runs. omega (arith, runs.there, higher)))

    by : ((i : ℕ) × RunsOn entries core t i) ⊎ ((i : ℕ) → i < k → ¬ RunsOn entries core t i) → ((i : ℕ) × RunsOn entries core t i) ⊎ ((i : ℕ) → i < suc k → ¬ RunsOn entries core t i)
    by (inl found) = inl found
    by (inr before) = here before (cases_order (core_at entries k) core) (cases_lt t (start_at entries k)) (cases_lt t (finish_at entries k))

module _ (table : Table) (m : ℕ) (scenario : List (ℕ × ℕ)) (schedule : List Place) (is_table : IsTable table) (places : length schedule ≡ length table.jobs) (law : RanksOrderJobs)
    (entries : List Entry) (are : entries ≡ entries_of_run table scenario schedule) where
  abbrev n : ℕ
  n = length table.jobs

  size : length entries ≡ length table.jobs
  size = few_entries table scenario schedule entries are

  at : (j : ℕ) → j < length table.jobs → entry_at entries j ≡ entry_of_job table scenario schedule j
  at j below = ap (λ xs. entry_at xs j) are ∙ get_or-map-range_with_len (entry_of_job table scenario schedule) 0 (length table.jobs) j j no_entry below (omega arith)

  starts : (j : ℕ) → j < length table.jobs → start_at entries j ≡ start_of schedule j
  starts j below = ap (λ (e : Entry). e.start) (at j below)

  finishes : (j : ℕ) → j < length table.jobs → finish_at entries j ≡ finish_of scenario schedule j
  finishes j below = ap (λ (e : Entry). e.finish) (at j below)

  readies : (j : ℕ) → j < length table.jobs → ready_at entries j ≡ ready_time table scenario schedule j
  readies j below = ap (λ (e : Entry). e.ready) (at j below)

  cores : (j : ℕ) → j < length table.jobs → core_at entries j ≡ core_of schedule j
  cores j below = ap (λ (e : Entry). e.core) (at j below)

  ranks : (j : ℕ) → j < length table.jobs → rank_at entries j ≡ rank_of table j
  ranks j below = ap (λ (e : Entry). e.rank) (at j below)

  not_urgent : (i j : ℕ) → i < length table.jobs → j < length table.jobs → rank_at entries j ≤ rank_at entries i → has_urgency_over table i j ≡ false
  not_urgent i j is_i is_j up =
      (law table i j is_table is_i is_j).0 ∙ le-ltb (rank_of table i) (rank_of table j) (omega (arith, ranks i is_i, ranks j is_j, up))

  up_to : (i j : ℕ) → i < length table.jobs → j < length table.jobs → has_urgency_over table i j ≡ false → rank_at entries j ≤ rank_at entries i
  up_to i j is_i is_j not =
      omega (arith, ranks i is_i, ranks j is_j, ltb-false (rank_of table i) (rank_of table j) (sym (law table i j is_table is_i is_j).0 ∙ not))

  urgent : (i j : ℕ) → i < length table.jobs → j < length table.jobs → rank_at entries i < rank_at entries j → has_urgency_over table i j ≡ true
  urgent i j is_i is_j less = (law table i j is_table is_i is_j).0 ∙ lt-ltb (rank_of table i) (rank_of table j) (omega (arith, ranks i is_i, ranks j is_j, less))

  -- ---- a rule that is broken as jobs start
  module _ (Bad Broken : ℕ → Type 0) (to : (j : ℕ) → j < length table.jobs → Bad j → Broken j) (from : (j : ℕ) → j < length table.jobs → Broken j → Bad j) where
    none_broken : FindsFirst entries Bad None → (j t : ℕ) → j < length table.jobs → ¬ ((t ≡ start_of schedule j) × Broken j)
    none_broken none j t is_job (is, broken) = none j (omega (arith, is_job, size)) (from j is_job broken)

    module _ (j : ℕ) (first : IsFirst entries Bad j) where
      is_job_first : j < length table.jobs
      is_job_first = omega (arith, first.is_job, size)

      broken_there : (start_at entries j ≡ start_of schedule j) × Broken j
      broken_there = (starts j is_job_first, to j is_job_first first.bad)

      not_before : (i : ℕ) → i < length table.jobs → Broken i → IsBefore (start_at entries i) i (start_at entries j) j → ⊥
      not_before i is_job broken before = first.first i (omega (arith, is_job, size)) before (from i is_job broken)

      no_time : (i t : ℕ) → i < length table.jobs → (t ≡ start_of schedule i) × Broken i → start_at entries j ≤ t
      no_time i t is_job (is, broken) = by (cases_lt t (start_at entries j))
        where
          by : (t < start_at entries j) ⊎ (start_at entries j ≤ t) → start_at entries j ≤ t
          by (inl less) = absurd (not_before i is_job broken (inl (omega (arith, less, is, starts i is_job))))
          by (inr more) = more

      no_job : (i : ℕ) → i < length table.jobs → (start_at entries j ≡ start_of schedule i) × Broken i → j ≤ i
      no_job i is_job (is, broken) = by (cases_lt i j)
        where
          by : (i < j) ⊎ (j ≤ i) → j ≤ i
          by (inl less) = absurd (not_before i is_job broken (inr (starts i is_job ∙ sym is, less)))
          by (inr more) = more

  off_to : (j : ℕ) → j < length table.jobs → IsOffCores entries m j → m ≤ core_of schedule j
  off_to j is_job bad = omega (arith, bad, cores j is_job)

  off_from : (j : ℕ) → j < length table.jobs → m ≤ core_of schedule j → IsOffCores entries m j
  off_from j is_job bad = omega (arith, bad, cores j is_job)

  early_to : (j : ℕ) → j < length table.jobs → IsTooEarly entries j → start_of schedule j < ready_time table scenario schedule j
  early_to j is_job bad = omega (arith, bad, starts j is_job, readies j is_job)

  early_from : (j : ℕ) → j < length table.jobs → start_of schedule j < ready_time table scenario schedule j → IsTooEarly entries j
  early_from j is_job bad = omega (arith, bad, starts j is_job, readies j is_job)

  cut_to : (j : ℕ) → j < length table.jobs → IsCutOff entries j → IsInterrupted table m scenario schedule j
  cut_to j is_job cut = record {
    by = cut.by;
    is_job = is_by;
    other = λ e. differs e cut.earlier;
    same_core = sym (cores cut.by is_by) ∙ cut.same_core ∙ cores j is_job;
    running = (started cut.earlier, omega (arith, cut.running, starts j is_job, finishes cut.by is_by));
    first = λ e. lesser e cut.earlier;
  }
    where
      is_by : cut.by < length table.jobs
      is_by = omega (arith, cut.is_job, size)

      differs : cut.by ≡ j → IsBefore (start_at entries cut.by) cut.by (start_at entries j) j → ⊥
      differs e (inl less) = omega (arith, less, ap (start_at entries) e)
      differs e (inr same) = omega (arith, same.1, e)

      started : IsBefore (start_at entries cut.by) cut.by (start_at entries j) j → start_of schedule cut.by ≤ start_of schedule j
      started (inl less) = omega (arith, less, starts j is_job, starts cut.by is_by)
      started (inr same) = omega (arith, same.0, starts j is_job, starts cut.by is_by)

      lesser : start_of schedule cut.by ≡ start_of schedule j → IsBefore (start_at entries cut.by) cut.by (start_at entries j) j → cut.by < j
      lesser e (inl less) = absurd (omega (arith, less, e, starts j is_job, starts cut.by is_by))
      lesser e (inr same) = same.1

  cut_from : (j : ℕ) → j < length table.jobs → IsInterrupted table m scenario schedule j → IsCutOff entries j
  cut_from j is_job broken = record {
    by = broken.by;
    is_job = omega (arith, broken.is_job, size);
    earlier = earlier (cases_lt (start_of schedule broken.by) (start_of schedule j));
    same_core = cores broken.by broken.is_job ∙ broken.same_core ∙ sym (cores j is_job);
    running = omega (arith, broken.running.1, starts j is_job, finishes broken.by broken.is_job);
  }
    where
      earlier : (start_of schedule broken.by < start_of schedule j) ⊎ (start_of schedule j ≤ start_of schedule broken.by) → IsBefore (start_at entries broken.by) broken.by (start_at entries j) j
      earlier (inl less) = inl (omega (arith, less, starts j is_job, starts broken.by broken.is_job))
      earlier (inr more) =
          let e : start_of schedule broken.by ≡ start_of schedule j = omega (arith, more, broken.running.0) in
          inr (starts broken.by broken.is_job ∙ e ∙ sym (starts j is_job), broken.first e)

  -- ---- a wait that need not be
  busy_to : (core t i : ℕ) → RunsOn entries core t i → IsBusy table scenario schedule core t
  busy_to core t i runs =
      let is_job : i < length table.jobs = omega (arith, runs.is_job, size) in
      record { by = i; is_job = is_job; there = sym (cores i is_job) ∙ runs.there; running = (omega (arith, runs.started, starts i is_job), omega (arith, runs.unfinished, finishes i is_job)) }

  busy_from : (core t : ℕ) (busy : IsBusy table scenario schedule core t) → RunsOn entries core t busy.by
  busy_from core t busy = record {
    is_job = omega (arith, busy.is_job, size);
    there = cores busy.by busy.is_job ∙ busy.there;
    started = omega (arith, busy.running.0, starts busy.by busy.is_job);
    unfinished = omega (arith, busy.running.1, finishes busy.by busy.is_job);
  }

  unheld_to : (j t : ℕ) → j < length table.jobs → IsUnheld entries m j t → Breaks table m scenario schedule L3 j t
  unheld_to j t is_job unheld = (omega (arith, unheld.waits.0, readies j is_job), omega (arith, unheld.waits.1, starts j is_job), by unheld.needless)
    where
      by : SomeIsIdle entries m t ⊎ PassesOver entries j t → HasIdleCore table m scenario schedule t ⊎ IsPassedOver table m scenario schedule j t
      by (inl some) = inl (record { core = some.core; in_range = some.in_range; idle = λ busy. some.idle busy.by (busy_from some.core t busy) })
      by (inr over) =
          let is_by : over.by < length table.jobs = omega (arith, over.is_job, size) in
          inr (record { by = over.by; is_job = is_by; starts = sym (starts over.by is_by) ∙ over.starts; not_urgent = not_urgent over.by j is_by is_job over.not_urgent })

  unheld_from : (j t : ℕ) → j < length table.jobs → Breaks table m scenario schedule L3 j t → IsUnheld entries m j t
  unheld_from j t is_job broken = record { waits = (omega (arith, broken.0, readies j is_job), omega (arith, broken.1, starts j is_job)); needless = by broken.2 }
    where
      by : HasIdleCore table m scenario schedule t ⊎ IsPassedOver table m scenario schedule j t → SomeIsIdle entries m t ⊎ PassesOver entries j t
      by (inl has) = inl (record { core = has.core; in_range = has.in_range; idle = λ i runs. has.idle (busy_to has.core t i runs) })
      by (inr over) =
          inr (record { by = over.by; is_job = omega (arith, over.is_job, size); starts = starts over.by over.is_job ∙ over.starts; not_urgent = up_to over.by j over.is_job is_job over.not_urgent })

  -- ---- the answers
  pub breaks_L0 : (j : ℕ) → IsFirst entries (IsOffCores entries m) j → IsFirstBreak table m scenario schedule (record { rule = L0; job = j; time = start_at entries j })
  breaks_L0 j first = record {
    is_job = is_job_first (IsOffCores entries m) (λ i. m ≤ core_of schedule i) off_to off_from j first;
    there = broken_there (IsOffCores entries m) (λ i. m ≤ core_of schedule i) off_to off_from j first;
    no_earlier_rule = λ rule i t less. absurd (omega (arith, less));
    no_earlier_time = no_time (IsOffCores entries m) (λ i. m ≤ core_of schedule i) off_to off_from j first;
    no_earlier_job = no_job (IsOffCores entries m) (λ i. m ≤ core_of schedule i) off_to off_from j first;
  }

  module _ (none_off : FindsFirst entries (IsOffCores entries m) None) where
    no_L0 : (j t : ℕ) → j < length table.jobs → ¬ Breaks table m scenario schedule L0 j t
    no_L0 = none_broken (IsOffCores entries m) (λ i. m ≤ core_of schedule i) off_to off_from none_off

    pub on_cores : (j : ℕ) → j < length entries → core_at entries j < m
    on_cores j is_job = by (cases_lt (core_at entries j) m)
      where
        by : (core_at entries j < m) ⊎ (m ≤ core_at entries j) → core_at entries j < m
        by (inl less) = less
        by (inr more) = absurd (none_off j is_job more)

    pub breaks_L1 : (j : ℕ) → IsFirst entries (IsTooEarly entries) j → IsFirstBreak table m scenario schedule (record { rule = L1; job = j; time = start_at entries j })
    breaks_L1 j first = record {
      is_job = is_job_first (IsTooEarly entries) (λ i. start_of schedule i < ready_time table scenario schedule i) early_to early_from j first;
      there = broken_there (IsTooEarly entries) (λ i. start_of schedule i < ready_time table scenario schedule i) early_to early_from j first;
      no_earlier_rule = rules;
      no_earlier_time = no_time (IsTooEarly entries) (λ i. start_of schedule i < ready_time table scenario schedule i) early_to early_from j first;
      no_earlier_job = no_job (IsTooEarly entries) (λ i. start_of schedule i < ready_time table scenario schedule i) early_to early_from j first;
    }
      where
        rules : (rule : Rule) (i t : ℕ) → rule_index rule < 1 → i < length table.jobs → ¬ Breaks table m scenario schedule rule i t
        rules L0 i t less is_job = no_L0 i t is_job
        rules L1 i t less is_job = absurd (omega (arith, less))
        rules L2 i t less is_job = absurd (omega (arith, less))
        rules L3 i t less is_job = absurd (omega (arith, less))

    module _ (none_early : FindsFirst entries (IsTooEarly entries) None) where
      no_L1 : (j t : ℕ) → j < length table.jobs → ¬ Breaks table m scenario schedule L1 j t
      no_L1 = none_broken (IsTooEarly entries) (λ i. start_of schedule i < ready_time table scenario schedule i) early_to early_from none_early

      pub after_ready : (j : ℕ) → j < length entries → ready_at entries j ≤ start_at entries j
      after_ready j is_job = by (cases_lt (start_at entries j) (ready_at entries j))
        where
          by : (start_at entries j < ready_at entries j) ⊎ (ready_at entries j ≤ start_at entries j) → ready_at entries j ≤ start_at entries j
          by (inl less) = absurd (none_early j is_job less)
          by (inr more) = more

      pub breaks_L2 : (j : ℕ) → IsFirst entries (IsCutOff entries) j → IsFirstBreak table m scenario schedule (record { rule = L2; job = j; time = start_at entries j })
      breaks_L2 j first = record {
        is_job = is_job_first (IsCutOff entries) (IsInterrupted table m scenario schedule) cut_to cut_from j first;
        there = broken_there (IsCutOff entries) (IsInterrupted table m scenario schedule) cut_to cut_from j first;
        no_earlier_rule = rules;
        no_earlier_time = no_time (IsCutOff entries) (IsInterrupted table m scenario schedule) cut_to cut_from j first;
        no_earlier_job = no_job (IsCutOff entries) (IsInterrupted table m scenario schedule) cut_to cut_from j first;
      }
        where
          rules : (rule : Rule) (i t : ℕ) → rule_index rule < 2 → i < length table.jobs → ¬ Breaks table m scenario schedule rule i t
          rules L0 i t less is_job = no_L0 i t is_job
          rules L1 i t less is_job = no_L1 i t is_job
          rules L2 i t less is_job = absurd (omega (arith, less))
          rules L3 i t less is_job = absurd (omega (arith, less))

      module _ (none_cut : FindsFirst entries (IsCutOff entries) None) where
        no_L2 : (j t : ℕ) → j < length table.jobs → ¬ Breaks table m scenario schedule L2 j t
        no_L2 = none_broken (IsCutOff entries) (IsInterrupted table m scenario schedule) cut_to cut_from none_cut

        breaks_L3 : (j t : ℕ) → IsFirstUnheld entries m t → IsFirstJob entries m t j → IsFirstBreak table m scenario schedule (record { rule = L3; job = j; time = t })
        breaks_L3 j t first job = record {
          is_job = omega (arith, job.is_job, size);
          there = unheld_to j t (omega (arith, job.is_job, size)) job.there;
          no_earlier_rule = rules;
          no_earlier_time = λ i u is_job broken. time i u is_job broken (cases_lt u t);
          no_earlier_job = λ i is_job broken. number i is_job broken (cases_lt i j);
        }
          where
            rules : (rule : Rule) (i u : ℕ) → rule_index rule < 3 → i < length table.jobs → ¬ Breaks table m scenario schedule rule i u
            rules L0 i u less is_job = no_L0 i u is_job
            rules L1 i u less is_job = no_L1 i u is_job
            rules L2 i u less is_job = no_L2 i u is_job
            rules L3 i u less is_job = absurd (omega (arith, less))

            time : (i u : ℕ) → i < length table.jobs → Breaks table m scenario schedule L3 i u → (u < t) ⊎ (t ≤ u) → t ≤ u
            time i u is_job broken (inl less) = absurd (first.first i u (omega (arith, is_job, size)) less (unheld_from i u is_job broken))
            time i u is_job broken (inr more) = more

            number : (i : ℕ) → i < length table.jobs → Breaks table m scenario schedule L3 i t → (i < j) ⊎ (j ≤ i) → j ≤ i
            number i is_job broken (inl less) = absurd (job.first i less (unheld_from i t is_job broken))
            number i is_job broken (inr more) = more

        legal : FindsUnheld entries m None → Legal table m scenario schedule
        legal none = record {
          one_each = places;
          on_cores = λ j is_job. omega (arith, on_cores j (omega (arith, is_job, size)), cores j is_job);
          after_ready = λ j is_job. omega (arith, after_ready j (omega (arith, is_job, size)), readies j is_job, starts j is_job);
          apart = λ i j is_i is_j differ same. apart i j is_i is_j same (cases_order (start_of schedule i) (start_of schedule j)) (cases_order i j) differ;
          held_back = λ j t is_job ready before. record {
            all_busy = λ core in_range. busy j t is_job ready before core in_range (search_runs entries core t (length entries) (omega arith));
            urgent_first = λ i is_i starts_now. first i j t is_i is_job ready before starts_now (cases_lt (rank_at entries i) (rank_at entries j));
          };
        }
          where
            -- of two jobs the later one, by (start, number), is not cut off
            after : (i j : ℕ) → i < length table.jobs → j < length table.jobs → core_of schedule i ≡ core_of schedule j → IsBefore (start_at entries i) i (start_at entries j) j → finish_of scenario schedule i ≤ start_of schedule j
            after i j is_i is_j same before = by (cases_lt (start_at entries j) (finish_at entries i))
              where
                by : (start_at entries j < finish_at entries i) ⊎ (finish_at entries i ≤ start_at entries j) → finish_of scenario schedule i ≤ start_of schedule j
                by (inl runs) =
                    absurd (none_cut j (omega (arith, is_j, size)) (record { by = i; is_job = omega (arith, is_i, size); earlier = before; same_core = cores i is_i ∙ same ∙ sym (cores j is_j); running = runs }))
                by (inr over) = omega (arith, over, finishes i is_i, starts j is_j)

            apart : (i j : ℕ) → i < length table.jobs → j < length table.jobs → core_of schedule i ≡ core_of schedule j →
                (start_of schedule i ≡ start_of schedule j) ⊎ ((start_of schedule i < start_of schedule j) ⊎ (start_of schedule j < start_of schedule i)) → (i ≡ j) ⊎ ((i < j) ⊎ (j < i)) → i ≢ j →
                (finish_of scenario schedule i ≤ start_of schedule j) ⊎ (finish_of scenario schedule j ≤ start_of schedule i)
            apart i j is_i is_j same (inr (inl less)) any differ = inl (after i j is_i is_j same (inl (omega (arith, less, starts i is_i, starts j is_j))))
            apart i j is_i is_j same (inr (inr more)) any differ = inr (after j i is_j is_i (sym same) (inl (omega (arith, more, starts i is_i, starts j is_j))))
            apart i j is_i is_j same (inl e) (inl one) differ = absurd (differ one)
            apart i j is_i is_j same (inl e) (inr (inl less)) differ = inl (after i j is_i is_j same (inr (starts i is_i ∙ e ∙ sym (starts j is_j), less)))
            apart i j is_i is_j same (inl e) (inr (inr more)) differ = inr (after j i is_j is_i (sym same) (inr (starts j is_j ∙ sym e ∙ sym (starts i is_i), more)))

            busy : (j t : ℕ) → j < length table.jobs → ready_time table scenario schedule j ≤ t → t < start_of schedule j → (core : ℕ) → core < m →
                ((i : ℕ) × RunsOn entries core t i) ⊎ ((i : ℕ) → i < length entries → ¬ RunsOn entries core t i) → IsBusy table scenario schedule core t
            busy j t is_job ready before core in_range (inl found) = busy_to core t found.0 found.1
            busy j t is_job ready before core in_range (inr idle) =
                absurd (none j t (omega (arith, is_job, size)) (record {
                  waits = (omega (arith, ready, readies j is_job), omega (arith, before, starts j is_job));
                  needless = inl (record { core = core; in_range = in_range; idle = λ i runs. idle i runs.is_job runs });
                }))

            first : (i j t : ℕ) → i < length table.jobs → j < length table.jobs → ready_time table scenario schedule j ≤ t → t < start_of schedule j → start_of schedule i ≡ t →
                (rank_at entries i < rank_at entries j) ⊎ (rank_at entries j ≤ rank_at entries i) → IsTrue (has_urgency_over table i j)
            first i j t is_i is_job ready before starts_now (inl less) = urgent i j is_i is_job less
            first i j t is_i is_job ready before starts_now (inr up) =
                absurd (none j t (omega (arith, is_job, size)) (record {
                  waits = (omega (arith, ready, readies j is_job), omega (arith, before, starts j is_job));
                  needless = inr (record { by = i; is_job = omega (arith, is_i, size); starts = starts i is_i ∙ starts_now; not_urgent = up });
                }))

  -- what is found is the first break
  pub audits : (found : Option Break) → FindsBreak entries m found → Audits table m scenario schedule found
  audits None finds = legal finds.well.on_cores finds.well.after_ready finds.well.apart finds.none
  audits (Some broken) finds = by broken.rule broken.job broken.time finds
    where
      at_time : (rule : Rule) (job time : ℕ) → time ≡ start_at entries job → IsFirstBreak table m scenario schedule (record { rule = rule; job = job; time = start_at entries job }) →
          IsFirstBreak table m scenario schedule (record { rule = rule; job = job; time = time })
      at_time rule job time e first = subst (λ (t : ℕ). IsFirstBreak table m scenario schedule (record { rule = rule; job = job; time = t })) (sym e) first

      by : (rule : Rule) (job time : ℕ) → IsFound entries m rule job time → IsFirstBreak table m scenario schedule (record { rule = rule; job = job; time = time })
      by L0 job time finds = at_time L0 job time finds.at (breaks_L0 job finds.first)
      by L1 job time finds = at_time L1 job time finds.at (breaks_L1 finds.on_cores job finds.first)
      by L2 job time finds = at_time L2 job time finds.at (breaks_L2 finds.on_cores finds.after_ready job finds.first)
      by L3 job time finds = breaks_L3 finds.well.on_cores finds.well.after_ready finds.well.apart job time finds.none_sooner finds.first

  -- a schedule that breaks no rule is legal
  pub unbroken_legal : ((rule : Rule) (j t : ℕ) → j < length table.jobs → ¬ Breaks table m scenario schedule rule j t) → Legal table m scenario schedule
  unbroken_legal none = legal off early cut waits
    where
      within : (j : ℕ) → j < length entries → j < length table.jobs
      within j is_job = omega (arith, is_job, size)

      off : FindsFirst entries (IsOffCores entries m) None
      off j is_job bad = none L0 j (start_of schedule j) (within j is_job) (refl, off_to j (within j is_job) bad)

      early : FindsFirst entries (IsTooEarly entries) None
      early j is_job bad = none L1 j (start_of schedule j) (within j is_job) (refl, early_to j (within j is_job) bad)

      cut : FindsFirst entries (IsCutOff entries) None
      cut j is_job bad = none L2 j (start_of schedule j) (within j is_job) (refl, cut_to j (within j is_job) bad)

      waits : FindsUnheld entries m None
      waits j t is_job unheld = none L3 j t (within j is_job) (unheld_to j t (within j is_job) unheld)

-- ---- the steps of the search
pub on_cores_if : (entries : List Entry) (m : ℕ) → FindsFirst entries (IsOffCores entries m) None → (j : ℕ) → j < length entries → core_at entries j < m
on_cores_if entries m none j is_job = by (cases_lt (core_at entries j) m)
  where
    by : (core_at entries j < m) ⊎ (m ≤ core_at entries j) → core_at entries j < m
    by (inl less) = less
    by (inr more) = absurd (none j is_job more)

pub after_ready_if : (entries : List Entry) → FindsFirst entries (IsTooEarly entries) None → (j : ℕ) → j < length entries → ready_at entries j ≤ start_at entries j
after_ready_if entries none j is_job = by (cases_lt (start_at entries j) (ready_at entries j))
  where
    by : (start_at entries j < ready_at entries j) ⊎ (ready_at entries j ≤ start_at entries j) → ready_at entries j ≤ start_at entries j
    by (inl less) = absurd (none j is_job less)
    by (inr more) = more

pub finds_wait : (entries : List Entry) (m : ℕ) (found : Option Break) → StartsWell entries m → FindsWait entries m found → FindsBreak entries m found
finds_wait entries m None well none = record { well = well; none = none }
finds_wait entries m (Some broken) well first =
    subst (λ (r : Rule). IsFound entries m r broken.job broken.time) (sym first.rule) (record { well = well; none_sooner = first.time; first = first.job })

pub audits_if : (table : Table) (m : ℕ) (scenario : List (ℕ × ℕ)) (schedule : List Place) → IsTable table → length schedule ≡ length table.jobs → RanksOrderJobs →
    (entries : List Entry) → entries ≡ entries_of_run table scenario schedule → (result : Result (Option Break) AllocError) → IfOk result (FindsBreak entries m) → IfOk result (Audits table m scenario schedule)
audits_if table m scenario schedule is_table places law entries are (Ok found) finds = audits table m scenario schedule is_table places law entries are found finds
audits_if table m scenario schedule is_table places law entries are (Err e) finds = tt
