-- The queues at first, as their loop fills them.
--     HasFirst table scenario later readiness n      the jobs below n are there
--     HasFirst-push, HasFirst-skip                   one more, which comes when it is released, or lacks a predecessor
--     HasAll-first                                   where all are
use Rattle.std.proofs.Common.{◌≡◌, ◌≢◌, ℕ, ◌+◌, ◌<◌, ◌≤◌, ◌⊎◌, inl, inr, Bool, false, cond, List, [], ◌∷◌, ◌++◌, length, get_or, refl, sym, ap, ◌∙◌, subst, arith}
use Rattle.std.specs.Prelude.{All, ◌==◌, count_by, IsPermutation}
use Rattle.std.specs.declared.cmp.Reverse.{Reverse}
use Rattle.std.specs.BinaryHeap.{IsHeap, KeepsHeap}
use Rattle.std.proofs.lemmas.Bool.{cases_lt, cases_eq, eq-eqb, ne_eqb, cond-true, cond-false}
use Rattle.std.proofs.lemmas.List.{length-append, get_or_append_left, get_or_push}
use Rattle.std.proofs.lemmas.List.Elements.{All-cons, Contains-get_or}
use Rattle.std.proofs.lemmas.List.Sorted.{All-permutation, sum_by_pushed}
use Rattle.job_model.specs.Table.{Table, predecessors}
use Rattle.job_model.specs.Scenario.{release_of}
use Rattle.replay.specs.declared.queues.Arrival.{Arrival}
use Rattle.replay.specs.declared.queues.Readiness.{Readiness}
use Rattle.replay.specs.declared.queues.Urgency.{Urgency}
use Rattle.replay.specs.Queues.{Queued, HasAll, IsComing, is_dispatched, missing_of, time_of, no_readiness, soonest_first}
use Rattle.replay.proofs.InHeaps.{counts, some_copies, some_missing}

-- whether the element is job j
abbrev comes_as : ℕ → Reverse Arrival → Bool
comes_as j e = e.0.no == j

-- The jobs below n: what each lacks, and once among those that come if it lacks none.
pub record HasFirst (table : Table) (scenario : List (ℕ × ℕ)) (later : List (Reverse Arrival)) (readiness : List Readiness) (n : ℕ) : Type 0 where
  pub by_time : IsHeap soonest_first later
  pub count : length readiness ≡ n
  pub missing : (j : ℕ) → j < n → missing_of readiness j ≡ length (predecessors table j)
  pub time : (j : ℕ) → j < n → time_of readiness j ≡ release_of scenario j
  pub comes : All (IsComing table readiness) later
  pub there : (j : ℕ) → j < n → 1 ≤ count_by (comes_as j) later + missing_of readiness j
  pub once : (j : ℕ) → count_by (comes_as j) later ≤ 1
  pub none_past : (j : ℕ) → n ≤ j → count_by (comes_as j) later ≡ 0

module _ (table : Table) (scenario : List (ℕ × ℕ)) (later : List (Reverse Arrival)) (readiness : List Readiness) (n : ℕ) (first : HasFirst table scenario later readiness n)
    (lacks time : ℕ) (is_job : n < length table.jobs) (all : lacks ≡ length (predecessors table n)) (released : time ≡ release_of scenario n) where
  abbrev longer : List Readiness
  longer = readiness ++ record { missing = lacks; time = time } ∷ []

  here : get_or longer n no_readiness ≡ record { missing = lacks; time = time }
  here = get_or_push readiness _ no_readiness n first.count

  before : (j : ℕ) → j < n → get_or longer j no_readiness ≡ get_or readiness j no_readiness
  before j less = get_or_append_left readiness _ no_readiness j (omega (arith, less, first.count))

  missing_longer : (j : ℕ) → j < n + 1 → missing_of longer j ≡ length (predecessors table j)
  missing_longer j less = by (cases_eq j n)
    where
      by : (j ≡ n) ⊎ (j ≢ n) → missing_of longer j ≡ length (predecessors table j)
      by (inl e) = ap (missing_of longer) e ∙ ap (λ r. r.missing) here ∙ all ∙ ap (λ i. length (predecessors table i)) (sym e)
      by (inr differ) = let less_n : j < n = omega (arith, less, differ) in ap (λ r. r.missing) (before j less_n) ∙ first.missing j less_n

  time_longer : (j : ℕ) → j < n + 1 → time_of longer j ≡ release_of scenario j
  time_longer j less = by (cases_eq j n)
    where
      by : (j ≡ n) ⊎ (j ≢ n) → time_of longer j ≡ release_of scenario j
      by (inl e) = ap (time_of longer) e ∙ ap (λ r. r.time) here ∙ released ∙ ap (release_of scenario) (sym e)
      by (inr differ) = let less_n : j < n = omega (arith, less, differ) in ap (λ r. r.time) (before j less_n) ∙ first.time j less_n

  comes_longer : All (IsComing table longer) later
  comes_longer k d less =
      let e = get_or later k d in
      let comes = first.comes k d less in
      let there = counts (comes_as e.0.no) later e (Contains-get_or later k d less) (eq-eqb e.0.no e.0.no refl) in
      let same = before e.0.no (by e.0.no there (cases_lt e.0.no n)) in
      record { is_job = comes.is_job; lacks_none = ap (λ r. r.missing) same ∙ comes.lacks_none; time = comes.time ∙ sym (ap (λ r. r.time) same) }
    where
      by : (j : ℕ) → 1 ≤ count_by (comes_as j) later → (j < n) ⊎ (n ≤ j) → j < n
      by j some (inl less) = less
      by j some (inr past) = absurd (omega (arith, some, first.none_past j past))

  -- one that lacks a predecessor
  pub HasFirst-skip : 1 ≤ lacks → HasFirst table scenario later longer (n + 1)
  HasFirst-skip some = record {
    by_time = first.by_time;
    count = omega (arith, length-append readiness (record { missing = lacks; time = time } ∷ []), first.count);
    missing = missing_longer;
    time = time_longer;
    comes = comes_longer;
    there = λ j less. there j less (cases_eq j n);
    once = first.once;
    none_past = λ j past. first.none_past j (omega (arith, past));
  }
    where
      there : (j : ℕ) → j < n + 1 → (j ≡ n) ⊎ (j ≢ n) → 1 ≤ count_by (comes_as j) later + missing_of longer j
      there j less (inl e) = omega (arith, some, ap (missing_of longer) e, ap (λ r. r.missing) here)
      there j less (inr differ) =
          let less_n : j < n = omega (arith, less, differ) in
          omega (arith, first.there j less_n, ap (λ r. r.missing) (before j less_n))

  -- one that lacks none
  pub HasFirst-push : lacks ≡ 0 → (more : List (Reverse Arrival)) → KeepsHeap soonest_first later more →
      IsPermutation (record { 0 = record { time = time; no = n } } ∷ later) more → HasFirst table scenario more longer (n + 1)
  HasFirst-push none more keeps moves = record {
    by_time = keeps first.by_time;
    count = omega (arith, length-append readiness (record { missing = lacks; time = time } ∷ []), first.count);
    missing = missing_longer;
    time = time_longer;
    comes = All-permutation (IsComing table longer) _ _ moves
        (All-cons (IsComing table longer) _ _ (record { is_job = is_job; lacks_none = ap (λ r. r.missing) here ∙ none; time = sym (ap (λ r. r.time) here) }) comes_longer);
    there = λ j less. there j less (cases_eq n j);
    once = λ j. once j (cases_eq n j);
    none_past = λ j past. omega (arith, pushed j, none_as j (λ e. omega (arith, e, past)), first.none_past j (omega (arith, past)));
  }
    where
      pushed : (j : ℕ) → count_by (comes_as j) more ≡ cond (n == j) 1 0 + count_by (comes_as j) later
      pushed j = sum_by_pushed (λ e. cond (comes_as j e) 1 0) _ later more moves

      one_as : (j : ℕ) → n ≡ j → ◌≡◌ {A = ℕ} (cond (n == j) 1 0) 1
      one_as j e = cond-true (n == j) 1 0 (eq-eqb n j e)

      none_as : (j : ℕ) → n ≢ j → ◌≡◌ {A = ℕ} (cond (n == j) 1 0) 0
      none_as j differ = cond-false (n == j) 1 0 (ne_eqb n j differ)

      there : (j : ℕ) → j < n + 1 → (n ≡ j) ⊎ (n ≢ j) → 1 ≤ count_by (comes_as j) more + missing_of longer j
      there j less (inl e) = omega (arith, pushed j, one_as j e)
      there j less (inr differ) =
          let less_n : j < n = omega (arith, less, differ) in
          omega (arith, pushed j, first.there j less_n, ap (λ r. r.missing) (before j less_n))

      once : (j : ℕ) → (n ≡ j) ⊎ (n ≢ j) → count_by (comes_as j) more ≤ 1
      once j (inl e) = omega (arith, pushed j, one_as j e, first.none_past j (omega (arith, e)))
      once j (inr differ) = omega (arith, pushed j, none_as j differ, first.once j)

-- where all are there, while none waits for a core
pub HasAll-first : (table : Table) (scenario : List (ℕ × ℕ)) (waiting : List (Reverse Urgency)) (later : List (Reverse Arrival)) (readiness : List Readiness) (n : ℕ) →
    waiting ≡ [] → HasFirst table scenario later readiness n → n ≡ length table.jobs → HasAll table scenario (record { waiting = waiting; later = later; readiness = readiness })
HasAll-first table scenario waiting later readiness n none first e =
    subst (λ xs. HasAll table scenario (record { waiting = xs; later = later; readiness = readiness })) (sym none) (record {
      none = λ j is_job. not_done j (cases_lt 0 (count_by (comes_as j) later)) (first.there j (omega (arith, is_job, e)));
      missing = λ j is_job. first.missing j (omega (arith, is_job, e));
      time = λ j is_job. first.time j (omega (arith, is_job, e));
      queues = record { waits = λ k d less. absurd (omega (arith, less)); comes = first.comes; once = λ j. omega (arith, first.once j) };
    })
  where
    queued : Queued
    queued = record { waiting = []; later = later; readiness = readiness }

    not_done : (j : ℕ) → (0 < count_by (comes_as j) later) ⊎ (count_by (comes_as j) later ≤ 0) → 1 ≤ count_by (comes_as j) later + missing_of readiness j → is_dispatched queued j ≡ false
    not_done j (inl some) there = some_copies queued j (omega (arith, some))
    not_done j (inr zero) there = some_missing queued j (omega (arith, zero, there))
