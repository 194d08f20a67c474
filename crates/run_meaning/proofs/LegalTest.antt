-- A test that a schedule is legal, slot by slot, for proofs of worked rows: a schedule that passes is legal.
use Rattle.std.proofs.Common.{◌≡◌, ◌≢◌, ℕ, zero, suc, ◌+◌, ◌<◌, ◌≤◌, ◌⊎◌, inl, inr, Bool, true, false, not, ◌&&◌, ◌||◌, List, length, get_or, sym, ◌∙◌, subst, arith}
use Rattle.std.specs.Prelude.{nat_lt, nat_le, ◌==◌, IsTrue}
use Rattle.std.specs.List.{list_all, list_any, range_with_len}
use Rattle.std.proofs.lemmas.Bool.{and_parts, or_cases, ltb-true, leb-true, eqb-true, eq-eqb, not-true}
use Rattle.std.proofs.lemmas.List.Sums.{AllPass-from_list_all}
use Rattle.std.proofs.lemmas.List.FromFn.{get_or-range_with_len, length-range_with_len}
use Rattle.lists.specs.Numbers.{numbers_below}
use Rattle.job_model.specs.Table.{Table, has_urgency_over}
use Rattle.run_meaning.specs.declared.places.Place.{Place}
use Rattle.run_meaning.specs.Ready.{start_of, core_of, finish_of, ready_time}
use Rattle.run_meaning.specs.Legal.{Legal, IsBusy, IsHeldBack}
use Rattle.lists.proofs.Orderings.{true≢false}

-- a test that all numbers below n pass holds of each
pub below-all : (p : ℕ → Bool) (n x : ℕ) → list_all p (numbers_below n) ≡ true → x < n → p x ≡ true
below-all p n x h less =
    let short : x < length (numbers_below n) = omega (arith, less, length-range_with_len 0 n) in
    let there : get_or (numbers_below n) x 0 ≡ x = get_or-range_with_len 0 n x 0 less ∙ zero_plus x in
    subst (λ y. p y ≡ true) there (AllPass-from_list_all p (numbers_below n) h x 0 short)
  where
    zero_plus : (x : ℕ) → 0 + x ≡ x
    zero_plus x = omega arith

-- a test that some number passes names one
any_range : (p : ℕ → Bool) (a n : ℕ) → list_any p (range_with_len a n) ≡ true → (x : ℕ) × (x < a + n) × (p x ≡ true)
any_range p a zero h = absurd (true≢false (sym h))
any_range p a (suc n) h = pick (or_cases (p a) (list_any p (range_with_len (a + 1) n)) h) (any_range p (a + 1) n)
  where
    pick : (p a ≡ true) ⊎ (list_any p (range_with_len (a + 1) n) ≡ true) →
        (list_any p (range_with_len (a + 1) n) ≡ true → (x : ℕ) × (x < a + 1 + n) × (p x ≡ true)) → (x : ℕ) × (x < a + suc n) × (p x ≡ true)
    pick (inl here) rest = (a, omega arith, here)
    pick (inr later) rest = let found = rest later in (found.0, omega (arith, found.1), found.2)

pub below-any : (p : ℕ → Bool) (n : ℕ) → list_any p (numbers_below n) ≡ true → (x : ℕ) × (x < n) × (p x ≡ true)
below-any p n h = let found = any_range p 0 n h in (found.0, omega (arith, found.1), found.2)

module _ (table : Table) (m : ℕ) (scenario : List (ℕ × ℕ)) (schedule : List Place) where
  abbrev for_all_jobs : (ℕ → Bool) → Bool
  for_all_jobs p = list_all p (numbers_below (length table.jobs))

  abbrev for_some_job : (ℕ → Bool) → Bool
  for_some_job p = list_any p (numbers_below (length table.jobs))

  abbrev runs_at : ℕ → ℕ → ℕ → Bool
  runs_at core t i = (core_of schedule i == core) && (nat_le (start_of schedule i) t && nat_lt t (finish_of scenario schedule i))

  abbrev held_back_at : ℕ → ℕ → Bool
  held_back_at j t =
      list_all (λ core. for_some_job (runs_at core t)) (numbers_below m)
      && for_all_jobs (λ i. not (start_of schedule i == t) || has_urgency_over table i j)

  abbrev apart_test : ℕ → ℕ → Bool
  apart_test i j =
      (i == j) || (not (core_of schedule i == core_of schedule j)
      || (nat_le (finish_of scenario schedule i) (start_of schedule j) || nat_le (finish_of scenario schedule j) (start_of schedule i)))

  abbrev pub legal_test : Bool
  legal_test =
      (length schedule == length table.jobs)
      && (for_all_jobs (λ j. nat_lt (core_of schedule j) m)
      && (for_all_jobs (λ j. nat_le (ready_time table scenario schedule j) (start_of schedule j))
      && (for_all_jobs (λ i. for_all_jobs (apart_test i))
      && for_all_jobs (λ j. list_all (λ t. nat_lt t (ready_time table scenario schedule j) || held_back_at j t) (numbers_below (start_of schedule j))))))

  busy_from : (core t : ℕ) → for_some_job (runs_at core t) ≡ true → IsBusy table scenario schedule core t
  busy_from core t h =
      let found = below-any (runs_at core t) (length table.jobs) h in
      let parts = and_parts (core_of schedule found.0 == core) (nat_le (start_of schedule found.0) t && nat_lt t (finish_of scenario schedule found.0)) found.2 in
      let times = and_parts (nat_le (start_of schedule found.0) t) (nat_lt t (finish_of scenario schedule found.0)) parts.1 in
      record {
        by = found.0;
        is_job = found.1;
        there = eqb-true (core_of schedule found.0) core parts.0;
        running = (leb-true (start_of schedule found.0) t times.0, ltb-true t (finish_of scenario schedule found.0) times.1);
      }

  urgent_from : (i j t : ℕ) → start_of schedule i ≡ t → (not (start_of schedule i == t) || has_urgency_over table i j) ≡ true → IsTrue (has_urgency_over table i j)
  urgent_from i j t e h = pick (or_cases (not (start_of schedule i == t)) (has_urgency_over table i j) h)
    where
      pick : (not (start_of schedule i == t) ≡ true) ⊎ (has_urgency_over table i j ≡ true) → has_urgency_over table i j ≡ true
      pick (inl differ) = absurd (true≢false (sym (eq-eqb (start_of schedule i) t e) ∙ not-true (start_of schedule i == t) differ))
      pick (inr urgent) = urgent

  held_back_from : (j t : ℕ) → held_back_at j t ≡ true → IsHeldBack table scenario schedule m j t
  held_back_from j t h =
      let parts = and_parts (list_all (λ core. for_some_job (runs_at core t)) (numbers_below m)) (for_all_jobs (λ i. not (start_of schedule i == t) || has_urgency_over table i j)) h in
      record {
        all_busy = λ core below. busy_from core t (below-all (λ c. for_some_job (runs_at c t)) m core parts.0 below);
        urgent_first = λ i below starts. urgent_from i j t starts (below-all (λ k. not (start_of schedule k == t) || has_urgency_over table k j) (length table.jobs) i parts.1 below);
      }

  apart_from : (i j : ℕ) → i ≢ j → core_of schedule i ≡ core_of schedule j → apart_test i j ≡ true →
      (finish_of scenario schedule i ≤ start_of schedule j) ⊎ (finish_of scenario schedule j ≤ start_of schedule i)
  apart_from i j differ same h = first (or_cases (i == j) _ h)
    where
      third : (nat_le (finish_of scenario schedule i) (start_of schedule j) ≡ true) ⊎ (nat_le (finish_of scenario schedule j) (start_of schedule i) ≡ true) →
          (finish_of scenario schedule i ≤ start_of schedule j) ⊎ (finish_of scenario schedule j ≤ start_of schedule i)
      third (inl h) = inl (leb-true _ _ h)
      third (inr h) = inr (leb-true _ _ h)

      second : (not (core_of schedule i == core_of schedule j) ≡ true) ⊎ ((nat_le (finish_of scenario schedule i) (start_of schedule j) || nat_le (finish_of scenario schedule j) (start_of schedule i)) ≡ true) →
          (finish_of scenario schedule i ≤ start_of schedule j) ⊎ (finish_of scenario schedule j ≤ start_of schedule i)
      second (inl other) = absurd (true≢false (sym (eq-eqb (core_of schedule i) (core_of schedule j) same) ∙ not-true (core_of schedule i == core_of schedule j) other))
      second (inr h) = third (or_cases _ _ h)

      first : ((i == j) ≡ true) ⊎ ((not (core_of schedule i == core_of schedule j) || (nat_le (finish_of scenario schedule i) (start_of schedule j) || nat_le (finish_of scenario schedule j) (start_of schedule i))) ≡ true) →
          (finish_of scenario schedule i ≤ start_of schedule j) ⊎ (finish_of scenario schedule j ≤ start_of schedule i)
      first (inl same_job) = absurd (differ (eqb-true i j same_job))
      first (inr h) = second (or_cases _ _ h)

  waits_from : (j t : ℕ) → ready_time table scenario schedule j ≤ t → (nat_lt t (ready_time table scenario schedule j) || held_back_at j t) ≡ true → IsHeldBack table scenario schedule m j t
  waits_from j t ready h = pick (or_cases (nat_lt t (ready_time table scenario schedule j)) (held_back_at j t) h)
    where
      pick : (nat_lt t (ready_time table scenario schedule j) ≡ true) ⊎ (held_back_at j t ≡ true) → IsHeldBack table scenario schedule m j t
      pick (inl before) = absurd (never (ready_time table scenario schedule j) t ready (ltb-true t (ready_time table scenario schedule j) before))
        where
          never : (a t : ℕ) → a ≤ t → t < a → ⊥
          never a t h k = omega (arith, h, k)
      pick (inr held) = held_back_from j t held

  -- a schedule that passes is legal
  pub Legal-from_test : legal_test ≡ true → Legal table m scenario schedule
  Legal-from_test h =
      let a = and_parts (length schedule == length table.jobs) _ h in
      let b = and_parts (for_all_jobs (λ j. nat_lt (core_of schedule j) m)) _ a.1 in
      let c = and_parts (for_all_jobs (λ j. nat_le (ready_time table scenario schedule j) (start_of schedule j))) _ b.1 in
      let d = and_parts (for_all_jobs (λ i. for_all_jobs (apart_test i))) _ c.1 in
      let n = length table.jobs in
      record {
        one_each = eqb-true (length schedule) (length table.jobs) a.0;
        on_cores = λ j below. ltb-true (core_of schedule j) m (below-all (λ k. nat_lt (core_of schedule k) m) n j b.0 below);
        after_ready = λ j below. leb-true (ready_time table scenario schedule j) (start_of schedule j) (below-all (λ k. nat_le (ready_time table scenario schedule k) (start_of schedule k)) n j c.0 below);
        apart = λ i j below_i below_j differ same. apart_from i j differ same (below-all (apart_test i) n j (below-all (λ k. for_all_jobs (apart_test k)) n i d.0 below_i) below_j);
        held_back = λ j t below ready starts. waits_from j t ready
            (below-all (λ u. nat_lt u (ready_time table scenario schedule j) || held_back_at j u) (start_of schedule j) t
            (below-all (λ k. list_all (λ u. nat_lt u (ready_time table scenario schedule k) || held_back_at k u) (numbers_below (start_of schedule k))) n j d.1 below) starts);
      }
