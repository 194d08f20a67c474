-- While a job is not done there is a turn, so each scenario has a legal run.
use Rattle.std.proofs.Common.{◌≡◌, ℕ, zero, suc, ◌+◌, ◌-◌, ◌<◌, ◌≤◌, ◌⊎◌, inl, inr, Bool, true, false, List, length, max, set, eqb, refl, ap, subst, arith}
use Rattle.std.specs.Prelude.{◌||◌}
use Rattle.std.proofs.lemmas.Bool.{cases_lt, cases_eq, eq-eqb, ne_eqb}
use Rattle.std.proofs.lemmas.List.{length-replicate}
use Rattle.std.proofs.Math.ListN.{replicate}
use Rattle.job_model.specs.Table.{Table, IsTable, job_at, has_urgency_over}
use Rattle.job_model.specs.Scenario.{Fits}
use Rattle.job_model.proofs.UrgencyLaws.{urgent_or_urgent, urgent-trans}
use Rattle.run_meaning.specs.declared.places.Place.{Place}
use Rattle.run_meaning.specs.Ready.{core_of, finish_of, ready_time, no_place}
use Rattle.run_meaning.specs.Legal.{Legal, LowestIdle}
use Rattle.run_meaning.specs.Laws.{RunsExist}
use Rattle.run_turns.specs.Parts.{undone, IsInUse, CanStart, IsPart, IsTurn}
use Rattle.run_meaning.proofs.Sorted.{ids_differ}
use Rattle.run_turns.proofs.Part.{Adds, Adds-set, part_none, part_more, Legal-from_part, LowestIdle-from_part}
use Rattle.run_turns.proofs.Left.{undone_none, undone_some, undone_less}
use Rattle.run_turns.proofs.Decided.{IsDecided, LeastBelow, FirstBelow, least_below, first_below, decided_both, decided_true, decided_le}
use Rattle.run_turns.proofs.Available.{IsAvailable, decided_available, some_available}

-- the greatest of f below n
latest : (ℕ → ℕ) → ℕ → ℕ
latest f zero = 0
latest f (suc n) = max (f n) (latest f n)

latest_bounds : (f : ℕ → ℕ) (n i : ℕ) → i < n → f i ≤ latest f n
unfolding latest
latest_bounds f zero i less = absurd (omega (arith, less))
latest_bounds f (suc n) i less = by (cases_lt i n) (latest_bounds f n i)
  where
    by : (i < n) ⊎ (n ≤ i) → (i < n → f i ≤ latest f n) → f i ≤ max (f n) (latest f n)
    by (inl below) rest = omega (arith, rest below)
    by (inr more) rest = let e : i ≡ n = omega (arith, less, more) in omega (arith, ap f e)

module _ (table : Table) (m : ℕ) (scenario : List (ℕ × ℕ)) (is_table : IsTable table) (cores : 0 < m) (done : ℕ → Bool) (schedule : List Place) (clock : ℕ) (part : IsPart table m scenario done schedule clock) where
  -- what is done on the core has finished by t
  abbrev pub IsIdle : ℕ → ℕ → Type 0
  IsIdle core t = (i : ℕ) → i < length table.jobs → done i ≡ true → core_of schedule i ≡ core → finish_of scenario schedule i ≤ t

  pub in_use_or_idle : (core t : ℕ) → clock ≤ t → IsInUse table m scenario done schedule core t ⊎ IsIdle core t
  in_use_or_idle core t from = by (least_below Uses (length table.jobs) (λ i _. decided i))
    where
      Uses : ℕ → Type 0
      Uses i = (done i ≡ true) × ((core_of schedule i ≡ core) × (suc t ≤ finish_of scenario schedule i))

      decided : (i : ℕ) → IsDecided (Uses i)
      decided i = decided_both _ _ (decided_true (done i)) (decided_both _ _ (cases_eq (core_of schedule i) core) (decided_le (suc t) (finish_of scenario schedule i)))

      by : LeastBelow Uses (length table.jobs) ⊎ ((i : ℕ) → i < length table.jobs → Uses i → ⊥) → IsInUse table m scenario done schedule core t ⊎ IsIdle core t
      by (inl found) = inl (record {
        by = found.0;
        is_job = found.1;
        is_done = found.2.0;
        there = found.2.1.0;
        running = (omega (arith, from, part.by_clock found.0 found.1 found.2.0), omega (arith, found.2.1.1));
      })
      by (inr none) = inr (λ i is_job is_done there. finished i is_job is_done there (cases_lt t (finish_of scenario schedule i)))
        where
          finished : (i : ℕ) → i < length table.jobs → done i ≡ true → core_of schedule i ≡ core → (t < finish_of scenario schedule i) ⊎ (finish_of scenario schedule i ≤ t) → finish_of scenario schedule i ≤ t
          finished i is_job is_done there (inl late) = absurd (none i is_job (is_done, (there, omega (arith, late))))
          finished i is_job is_done there (inr h) = h

  -- a job can start at t, and a core is idle
  abbrev IsPossible : ℕ → Type 0
  IsPossible t = ((j : ℕ) × (j < length table.jobs) × CanStart table m scenario done schedule j t) × ((c : ℕ) × (c < m) × IsIdle c t)

  decided_can : (j t : ℕ) → j < length table.jobs → IsDecided (CanStart table m scenario done schedule j t)
  decided_can j t is_job = by (decided_available table is_table done j) (decided_le (ready_time table scenario schedule j) t)
    where
      by : IsDecided (IsAvailable table is_table done j) → IsDecided (ready_time table scenario schedule j ≤ t) → IsDecided (CanStart table m scenario done schedule j t)
      by (inl free) (inl ready) = inl (record { is_job = is_job; waits = free.0; after = free.1; ready = ready })
      by (inl free) (inr late) = inr (λ can. late can.ready)
      by (inr not_free) ready = inr (λ can. not_free (can.waits, can.after))

  decided_idle : (c t : ℕ) → clock ≤ t → IsDecided (IsIdle c t)
  decided_idle c t from = by (in_use_or_idle c t from)
    where
      by : IsInUse table m scenario done schedule c t ⊎ IsIdle c t → IsDecided (IsIdle c t)
      by (inl busy) = inr (λ idle. omega (arith, busy.running.1, idle busy.by busy.is_job busy.is_done busy.there))
      by (inr idle) = inl idle

  decided_some : (P : ℕ → Type 0) (n : ℕ) → ((x : ℕ) → x < n → IsDecided (P x)) → IsDecided ((x : ℕ) × (x < n) × P x)
  decided_some P n decide = by (least_below P n decide)
    where
      by : LeastBelow P n ⊎ ((x : ℕ) → x < n → P x → ⊥) → IsDecided ((x : ℕ) × (x < n) × P x)
      by (inl found) = inl (found.0, found.1, found.2)
      by (inr none) = inr (λ some. none some.0 some.1 some.2)

  decided_possible : (t : ℕ) → clock ≤ t → IsDecided (IsPossible t)
  decided_possible t from = decided_both _ _ (decided_some (λ j. CanStart table m scenario done schedule j t) (length table.jobs) (λ j is_job. decided_can j t is_job)) (decided_some (λ c. IsIdle c t) m (λ c _. decided_idle c t from))

  -- the least time from the clock at which a job can start and a core is idle
  record FirstTime : Type 0 where
    pub at : ℕ
    pub from : clock ≤ at
    pub possible : IsPossible at
    pub none_before : (s : ℕ) → clock ≤ s → s < at → IsPossible s → ⊥

  first_time : (j : ℕ) → j < length table.jobs → done j ≡ false → FirstTime
  first_time j is_job waits =
      let free = some_available table is_table done j is_job waits in
      let wait = max (ready_time table scenario schedule free.0) (latest (finish_of scenario schedule) (length table.jobs)) in
      by wait (
        (free.0, free.1, record { is_job = free.1; waits = free.2.0; after = free.2.1; ready = omega arith }),
        (0, cores, λ i is_one is_done there. omega (arith, latest_bounds (finish_of scenario schedule) (length table.jobs) i is_one)),
      )
      (least_below (λ k. IsPossible (clock + k)) (suc wait) (λ k _. decided_possible (clock + k) (omega arith)))
    where
      by : (wait : ℕ) → IsPossible (clock + wait) → LeastBelow (λ k. IsPossible (clock + k)) (suc wait) ⊎ ((k : ℕ) → k < suc wait → IsPossible (clock + k) → ⊥) → FirstTime
      by wait there (inl found) = record {
        at = clock + found.0;
        from = omega arith;
        possible = found.2;
        none_before = λ s from less there.
            let e : s ≡ clock + (s - clock) = omega (arith, from) in
            found.3 (s - clock) (omega (arith, less, from)) (subst IsPossible e there);
      }
      by wait there (inr none) = absurd (none wait (omega arith) there)

  pub record SomeTurn : Type 0 where
    pub job : ℕ
    pub core : ℕ
    pub time : ℕ
    pub turn : IsTurn table m scenario done schedule clock job core time

  -- while a job is not done, there is a turn
  pub some_turn : (j : ℕ) → j < length table.jobs → done j ≡ false → SomeTurn
  some_turn j is_job waits =
      let first = first_time j is_job waits in
      by first
      (first_below (λ i. CanStart table m scenario done schedule i first.at) (has_urgency_over table) (length table.jobs) (λ i is_one. decided_can i first.at is_one)
      (λ x y below_x below_y differ. urgent_or_urgent (job_at table x) (job_at table y) (ids_differ table schedule is_table x y below_x below_y differ))
      (λ x y z. urgent-trans (job_at table x) (job_at table y) (job_at table z)))
      (least_below (λ c. IsIdle c first.at) m (λ c _. decided_idle c first.at first.from))
    where
      by : (first : FirstTime) → FirstBelow (λ i. CanStart table m scenario done schedule i first.at) (has_urgency_over table) (length table.jobs) ⊎ ((x : ℕ) → x < length table.jobs → CanStart table m scenario done schedule x first.at → ⊥) →
          LeastBelow (λ c. IsIdle c first.at) m ⊎ ((x : ℕ) → x < m → IsIdle x first.at → ⊥) → SomeTurn
      by first (inr none) core = absurd (none first.possible.0.0 first.possible.0.1 first.possible.0.2)
      by first (inl best) (inr none) = absurd (none first.possible.1.0 first.possible.1.1 first.possible.1.2)
      by first (inl best) (inl core) = record {
        job = best.0;
        core = core.0;
        time = first.at;
        turn = record {
          can_start = best.2;
          not_before = first.from;
          in_range = core.1;
          idle = core.2;
          lower_busy = λ c less. busy_or c (core.3 c less) (in_use_or_idle c first.at first.from);
          earliest = λ i s from less can c below. busy_at s from less i can c below (in_use_or_idle c s from);
          most_urgent = λ i can differ. best.3 i can.is_job can differ;
        };
      }
        where
          busy_or : (c : ℕ) → (IsIdle c first.at → ⊥) → IsInUse table m scenario done schedule c first.at ⊎ IsIdle c first.at → IsInUse table m scenario done schedule c first.at
          busy_or c h (inl busy) = busy
          busy_or c h (inr idle) = absurd (h idle)

          busy_at : (s : ℕ) → clock ≤ s → s < first.at → (i : ℕ) → CanStart table m scenario done schedule i s → (c : ℕ) → c < m →
              IsInUse table m scenario done schedule c s ⊎ IsIdle c s → IsInUse table m scenario done schedule c s
          busy_at s from less i can c below (inl busy) = busy
          busy_at s from less i can c below (inr idle) = absurd (first.none_before s from less ((i, can.is_job, can), (c, below, idle)))

abbrev with_job : (ℕ → Bool) → ℕ → ℕ → Bool
with_job done b i = eqb i b || done i

Adds-job : (done : ℕ → Bool) (schedule : List Place) (b core t : ℕ) → b < length schedule → Adds done schedule b core t (with_job done b) (set schedule b (record { start = t; core = core }))
Adds-job done schedule b core t below =
    Adds-set done schedule b core t below (with_job done b) (ap (λ x. x || done b) (eq-eqb b b refl)) (λ i differ. ap (λ x. x || done i) (ne_eqb i b differ))

module _ (table : Table) (m : ℕ) (scenario : List (ℕ × ℕ)) (is_table : IsTable table) (cores : 0 < m) (fits : Fits table scenario) where
  abbrev Run : Type 0
  Run = (schedule : List Place) × Legal table m scenario schedule × LowestIdle table scenario schedule

  run_from : (k : ℕ) (done : ℕ → Bool) (schedule : List Place) (clock : ℕ) → IsPart table m scenario done schedule clock → undone done (length table.jobs) ≡ k → Run
  run_from zero done schedule clock part left =
      let all_done = undone_none done (length table.jobs) left in
      (schedule, Legal-from_part table m scenario is_table fits done schedule clock part all_done, LowestIdle-from_part table m scenario is_table fits done schedule clock part all_done)
  run_from (suc k) done schedule clock part left =
      let open_job = undone_some done (length table.jobs) (omega (arith, left)) in
      let next = some_turn table m scenario is_table cores done schedule clock part open_job.0 open_job.1 open_job.2 in
      let b = next.job in
      let adds = Adds-job done schedule b next.core next.time (omega (arith, next.turn.can_start.is_job, part.one_each)) in
      let fewer = undone_less done (with_job done b) b (length table.jobs) next.turn.can_start.is_job next.turn.can_start.waits adds.is_done adds.other_done in
      run_from k (with_job done b) (set schedule b (record { start = next.time; core = next.core })) next.time
      (part_more table m scenario is_table fits done schedule clock part b next.core next.time next.turn (with_job done b) (set schedule b (record { start = next.time; core = next.core })) adds)
      (omega (arith, left, fewer))

pub runs_exist : RunsExist
runs_exist table m scenario is_table cores fits =
    let empty = replicate (length table.jobs) no_place in
    run_from table m scenario is_table cores fits (undone (λ j. false) (length table.jobs)) (λ j. false) empty 0
    (part_none table m scenario (λ j. false) empty (length-replicate (length table.jobs) no_place) (λ j is_job. refl)) refl
