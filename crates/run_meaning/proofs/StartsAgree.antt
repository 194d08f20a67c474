-- Two legal schedules of one scenario have the same starts.
use Rattle.std.proofs.Common.{◌≡◌, ◌≢◌, ℕ, zero, suc, ◌+◌, ◌<◌, ◌≤◌, ◌⊎◌, inl, inr, Bool, true, false, List, length, map, get_or, refl, sym, ap, ◌∙◌, arith}
use Rattle.std.specs.Prelude.{All, ◌==◌}
use Rattle.std.specs.List.{filter}
use Rattle.std.proofs.lemmas.Bool.{cases_lt, cases_order}
use Rattle.std.proofs.lemmas.List.Elements.{All-map, All-filter}
use Rattle.std.proofs.lemmas.List.Recursion.{max_bounds, max_least}
use Rattle.lists.specs.Numbers.{greatest}
use Rattle.job_model.specs.Table.{Table, IsTable, job_at, no_job, predecessors}
use Rattle.job_model.specs.Scenario.{Fits, release_of, cost_of}
use Rattle.job_model.proofs.UrgencyLaws.{urgent_one_way}
use Rattle.run_meaning.specs.declared.places.Place.{Place}
use Rattle.run_meaning.specs.Ready.{start_of, core_of, finish_of, ready_time, IsRunning}
use Rattle.run_meaning.specs.Legal.{Legal, IsHeldBack}
use Rattle.run_meaning.specs.Laws.{StartsAgree}
use Rattle.job_model.proofs.Pigeonhole.{pigeonhole}
use Rattle.lists.proofs.Orderings.{true≢false}

-- what follows from all lesser numbers holds of each
pub by_lesser : (P : ℕ → Type 0) → ((t : ℕ) → ((u : ℕ) → u < t → P u) → P t) → (t : ℕ) → P t
by_lesser P step t = below (suc t) t (omega arith)
  where
    below : (n u : ℕ) → u < n → P u
    below zero u less = absurd (omega (arith, less))
    below (suc n) u less = step u (λ v lesser. below n v (omega (arith, less, lesser)))

-- the first parts of the edges that pass are below n
first_parts : (test : ℕ × ℕ → Bool) (n : ℕ) (edges : List (ℕ × ℕ)) → All (λ e. (e.0 < n) × (e.1 < n)) edges → All (λ i. i < n) (map (λ e. e.0) (filter test edges))
first_parts test n edges h = All-map (λ i. i < n) (λ e. e.0) (filter test edges) (All-filter test (λ e. e.0 < n) edges (λ k d below. (h k d below).0))

module _ (table : Table) (scenario : List (ℕ × ℕ)) (is_table : IsTable table) (fits : Fits table scenario) where
  pub cost_positive : (j : ℕ) → j < length table.jobs → 1 ≤ cost_of scenario j
  cost_positive j below = omega (arith, (fits.each j below).at_least, (is_table.jobs j no_job below).costs_something)

  pub predecessors_below : (j : ℕ) → All (λ i. i < length table.jobs) (predecessors table j)
  predecessors_below j = first_parts (λ e. e.1 == j) (length table.jobs) table.edges is_table.edges_in_range

  -- a job's predecessors have finished when it is ready
  pub finished_by_ready : (schedule : List Place) (j k d : ℕ) → k < length (predecessors table j) →
      finish_of scenario schedule (get_or (predecessors table j) k d) ≤ ready_time table scenario schedule j
  finished_by_ready schedule j k d below =
      omega (arith, max_bounds (λ xs. greatest (map (finish_of scenario schedule) xs)) (finish_of scenario schedule) refl (λ x xs. refl) (predecessors table j) k d below)

  -- a job is ready by t where it is released and its predecessors have finished by then
  pub ready_by : (schedule : List Place) (j t : ℕ) → release_of scenario j ≤ t →
      ((k : ℕ) → k < length (predecessors table j) → finish_of scenario schedule (get_or (predecessors table j) k 0) ≤ t) → ready_time table scenario schedule j ≤ t
  ready_by schedule j t released finished =
      omega (arith, released, max_least (λ xs. greatest (map (finish_of scenario schedule) xs)) (finish_of scenario schedule) refl (λ x xs. refl) (predecessors table j) 0 t finished)

  module _ (m : ℕ) where
    -- In each two legal schedules, the jobs that start at t in the one do so in the other.
    abbrev pub AgreeAt : ℕ → Type 0
    AgreeAt t =
        (one other : List Place) → Legal table m scenario one → Legal table m scenario other → (j : ℕ) → j < length table.jobs → start_of one j ≡ t → start_of other j ≡ t

    module _ (t : ℕ) (before : (u : ℕ) → u < t → AgreeAt u) where
      -- where all starts before t agree, so does what is ready by t
      ready_agrees : (one other : List Place) → Legal table m scenario one → Legal table m scenario other → (j : ℕ) →
          ready_time table scenario one j ≤ t → ready_time table scenario other j ≤ t
      ready_agrees one other legal_one legal_other j ready = ready_by other j t (omega (arith, ready)) each
        where
          each : (k : ℕ) → k < length (predecessors table j) → finish_of scenario other (get_or (predecessors table j) k 0) ≤ t
          each k below =
              let i = get_or (predecessors table j) k 0 in
              let is_job : i < length table.jobs = predecessors_below j k 0 below in
              let costs : 1 ≤ cost_of scenario i = cost_positive i is_job in
              let done : start_of one i + cost_of scenario i ≤ ready_time table scenario one j = finished_by_ready one j k 0 below in
              let earlier : start_of one i < t = omega (arith, done, costs, ready) in
              omega (arith, done, ready, before (start_of one i) earlier one other legal_one legal_other i is_job refl)

      module _ (one other : List Place) (legal_one : Legal table m scenario one) (legal_other : Legal table m scenario other) where
        -- what has started by t in both has started at one time
        started_agrees : (b : ℕ) → b < length table.jobs → start_of one b ≤ t → start_of other b ≤ t → start_of other b ≡ start_of one b
        started_agrees b is_job by_one by_other = by (cases_lt (start_of one b) t) (cases_lt (start_of other b) t)
          where
            by : (start_of one b < t) ⊎ (t ≤ start_of one b) → (start_of other b < t) ⊎ (t ≤ start_of other b) → start_of other b ≡ start_of one b
            by (inl less) s = before (start_of one b) less one other legal_one legal_other b is_job refl
            by (inr more) (inl less) = sym (before (start_of other b) less other one legal_other legal_one b is_job refl)
            by (inr more) (inr more_other) = omega (arith, by_one, by_other, more, more_other)

        module _ (j : ℕ) (is_job : j < length table.jobs) (starts : start_of one j ≡ t) (later : t < start_of other j) where
          held : IsHeldBack table scenario other m j t
          held =
              let ready : ready_time table scenario one j ≤ t = omega (arith, legal_one.after_ready j is_job, starts) in
              legal_other.held_back j t is_job (ready_agrees one other legal_one legal_other j ready) later

          -- a job that runs in the other at t has started in the one
          has_started : (b : ℕ) → b < length table.jobs → start_of other b ≤ t → t < start_of one b → ⊥
          has_started b below by_other late = by (cases_lt (start_of other b) t)
            where
              by : (start_of other b < t) ⊎ (t ≤ start_of other b) → ⊥
              by (inl less) = omega (arith, less, late, before (start_of other b) less other one legal_other legal_one b below refl)
              by (inr more) =
                  let now : start_of other b ≡ t = omega (arith, more, by_other) in
                  let ready : ready_time table scenario other b ≤ t = omega (arith, legal_other.after_ready b below, now) in
                  let waits : IsHeldBack table scenario one m b t = legal_one.held_back b t below (ready_agrees other one legal_other legal_one b ready) late in
                  true≢false (sym (waits.urgent_first j is_job starts) ∙ urgent_one_way (job_at table b) (job_at table j) (held.urgent_first b below now))

          runs_in_one : (b : ℕ) → b < length table.jobs → IsRunning scenario other b t → IsRunning scenario one b t
          runs_in_one b below running = by (cases_lt t (start_of one b))
            where
              by : (t < start_of one b) ⊎ (start_of one b ≤ t) → IsRunning scenario one b t
              by (inl late) = absurd (has_started b below running.0 late)
              by (inr started) = (started, omega (arith, running.1, started_agrees b below started running.0))

          -- A job that runs in the one at t: for each core below m the job that is there in the other, and past them j.
          record Occupant (core : ℕ) : Type 0 where
            pub by : ℕ
            pub is_one : by < length table.jobs
            pub running : IsRunning scenario one by t
            pub there : core < m → (core_of other by ≡ core) × (start_of other by ≤ t)
            pub last : m ≤ core → by ≡ j

          occupant : (core : ℕ) → Occupant core
          occupant core = by_place (cases_lt core m)
            where
              by_place : (core < m) ⊎ (m ≤ core) → Occupant core
              by_place (inl below) =
                  let busy = held.all_busy core below in
                  record {
                    by = busy.by;
                    is_one = busy.is_job;
                    running = runs_in_one busy.by busy.is_job busy.running;
                    there = λ _. (busy.there, busy.running.0);
                    last = λ past. absurd (omega (arith, past, below));
                  }
              by_place (inr past) = record {
                by = j;
                is_one = is_job;
                running = (omega (arith, starts), omega (arith, starts, cost_positive j is_job));
                there = λ below. absurd (omega (arith, past, below));
                last = λ _. refl;
              }

          differ : (x y : ℕ) → x < y → y ≤ m → (occupant x).by ≢ (occupant y).by
          differ x y less within same =
              let x_there = (occupant x).there (omega (arith, less, within)) in
              by x_there (cases_lt y m)
            where
              by : (core_of other (occupant x).by ≡ x) × (start_of other (occupant x).by ≤ t) → (y < m) ⊎ (m ≤ y) → ⊥
              by x_there (inl below) = omega (arith, less, x_there.0, ((occupant y).there below).0, ap (core_of other) same)
              by x_there (inr past) = omega (arith, later, x_there.1, ap (start_of other) (same ∙ (occupant y).last past))

          crowded : ⊥
          crowded =
              let twice = pigeonhole m (λ core. core_of one (occupant core).by) (λ x _. legal_one.on_cores (occupant x).by (occupant x).is_one) in
              let x = occupant twice.0 in
              let y = occupant twice.1 in
              by x y (legal_one.apart x.by y.by x.is_one y.is_one (differ twice.0 twice.1 twice.2 twice.3) twice.4)
            where
              by : {v w : ℕ} (x : Occupant v) (y : Occupant w) → (finish_of scenario one x.by ≤ start_of one y.by) ⊎ (finish_of scenario one y.by ≤ start_of one x.by) → ⊥
              by x y (inl before_y) = omega (arith, before_y, x.running.1, y.running.0)
              by x y (inr before_x) = omega (arith, before_x, y.running.1, x.running.0)

        agrees : (j : ℕ) → j < length table.jobs → start_of one j ≡ t → start_of other j ≡ t
        agrees j is_job starts = by (cases_order (start_of other j) t)
          where
            by : (start_of other j ≡ t) ⊎ ((start_of other j < t) ⊎ (t < start_of other j)) → start_of other j ≡ t
            by (inl same) = same
            by (inr (inl less)) = absurd (omega (arith, less, starts, before (start_of other j) less other one legal_other legal_one j is_job refl))
            by (inr (inr later)) = absurd (crowded j is_job starts later)

    pub agree_at : (t : ℕ) → AgreeAt t
    agree_at = by_lesser AgreeAt (λ t before one other legal_one legal_other. agrees t before one other legal_one legal_other)

pub starts_agree : StartsAgree
starts_agree table m scenario one other is_table fits legal_one legal_other j is_job =
    sym (agree_at table scenario is_table fits m (start_of one j) one other legal_one legal_other j is_job refl)
