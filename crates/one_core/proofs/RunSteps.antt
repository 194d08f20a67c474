-- One step of a run on one core without precedence: which job starts next, and when.
use Rattle.std.proofs.Common.{◌≡◌, ◌≢◌, ℕ, ◌+◌, ◌<◌, ◌≤◌, ◌⊎◌, inl, inr, true, false, List, length, sym, ◌∙◌, arith}
use Rattle.std.specs.Prelude.{◌==◌}
use Rattle.std.proofs.lemmas.Bool.{cases_lt, cases_Bool, or_cases, or_parts, eqb-true, eqb-false}
use Rattle.job_sets.specs.Subset.{is_member, with_number}
use Rattle.job_sets.proofs.Additions.{is_member-with_number}
use Rattle.job_model.specs.declared.job_row.Job.{Job}
use Rattle.job_model.specs.Table.{IsTable, table_of, has_urgency_over}
use Rattle.job_model.specs.Scenario.{Fits, release_of, cost_of}
use Rattle.run_meaning.specs.declared.places.Place.{Place}
use Rattle.run_meaning.specs.Ready.{start_of, core_of, finish_of}
use Rattle.run_meaning.specs.Legal.{Legal, IsHeldBack, IsBusy}
use Rattle.run_meaning.proofs.StartsAgree.{cost_positive}

module _ (jobs : List Job) (scenario : List (ℕ × ℕ)) (schedule : List Place) where
  -- the jobs of the set have finished by t, and no other starts before
  pub record Reaches (set : List ℕ) (t : ℕ) : Type 0 where
    pub done : (x : ℕ) → x < length jobs → is_member x set ≡ true → finish_of scenario schedule x ≤ t
    pub waits : (x : ℕ) → x < length jobs → is_member x set ≡ false → t ≤ start_of schedule x

  -- Job j may start at s: it is there by then, no job outside the set comes between t and s, and no more urgent one by s.
  pub record IsTurnAt (set : List ℕ) (t j s : ℕ) : Type 0 where
    pub is_job : j < length jobs
    pub outside : is_member j set ≡ false
    pub not_before : t ≤ s
    pub released : release_of scenario j ≤ s
    pub quiet : (x : ℕ) → x < length jobs → is_member x set ≡ false → t < s → s ≤ release_of scenario x
    pub first : (x : ℕ) → x < length jobs → is_member x set ≡ false → has_urgency_over (table_of jobs) x j ≡ true → s < release_of scenario x

module _ (jobs : List Job) (scenario : List (ℕ × ℕ)) (schedule : List Place)
    (is_table : IsTable (table_of jobs)) (fits : Fits (table_of jobs) scenario) (legal : Legal (table_of jobs) 1 scenario schedule) where
  -- a job does not start before it is released
  after_release : (x : ℕ) → x < length jobs → release_of scenario x ≤ start_of schedule x
  after_release x below = omega (arith, legal.after_ready x below)

  on_core : (x : ℕ) → x < length jobs → core_of schedule x ≡ 0
  on_core x below = omega (arith, legal.on_cores x below)

  module _ (set : List ℕ) (t j s : ℕ) (reached : Reaches jobs scenario schedule set t) (turn : IsTurnAt jobs scenario schedule set t j s) where
    -- no job outside the set starts before s
    from_then : (x : ℕ) → x < length jobs → is_member x set ≡ false → s ≤ start_of schedule x
    from_then x below out = by (cases_lt t s)
      where
        by : (t < s) ⊎ (s ≤ t) → s ≤ start_of schedule x
        by (inl later) = omega (arith, turn.quiet x below out later, after_release x below)
        by (inr now) = omega (arith, now, reached.waits x below out)

    -- a job that runs at s is of the set, or starts then
    not_held : s < start_of schedule j → ⊥
    not_held late = by busy (cases_Bool (is_member busy.by set))
      where
        held : IsHeldBack (table_of jobs) scenario schedule 1 j s
        held = legal.held_back j s turn.is_job (omega (arith, turn.released)) late

        busy : IsBusy (table_of jobs) scenario schedule 0 s
        busy = held.all_busy 0 (omega arith)

        by : (b : IsBusy (table_of jobs) scenario schedule 0 s) → (is_member b.by set ≡ true) ⊎ (is_member b.by set ≡ false) → ⊥
        by b (inl there) = omega (arith, reached.done b.by b.is_job there, b.running.1, turn.not_before)
        by b (inr out) =
            let now : start_of schedule b.by ≡ s = omega (arith, from_then b.by b.is_job out, b.running.0) in
            let urgent = held.urgent_first b.by b.is_job now in
            omega (arith, now, turn.first b.by b.is_job out urgent, after_release b.by b.is_job)

    pub starts_then : start_of schedule j ≡ s
    starts_then = by (cases_lt s (start_of schedule j))
      where
        by : (s < start_of schedule j) ⊎ (start_of schedule j ≤ s) → start_of schedule j ≡ s
        by (inl late) = absurd (not_held late)
        by (inr soon) = omega (arith, soon, from_then j turn.is_job turn.outside)

    -- all others outside the set start once j has finished
    behind : (x : ℕ) → x < length jobs → is_member x set ≡ false → x ≢ j → s + cost_of scenario j ≤ start_of schedule x
    behind x below out other = by (legal.apart x j below turn.is_job other (on_core x below ∙ sym (on_core j turn.is_job)))
      where
        by : (finish_of scenario schedule x ≤ start_of schedule j) ⊎ (finish_of scenario schedule j ≤ start_of schedule x) → s + cost_of scenario j ≤ start_of schedule x
        by (inl before) = absurd (omega (arith, before, starts_then, from_then x below out, cost_positive (table_of jobs) scenario is_table fits x below))
        by (inr after) = omega (arith, after, starts_then)

    pub reaches_next : Reaches jobs scenario schedule (with_number j set) (s + cost_of scenario j)
    reaches_next = record { done = done; waits = waits }
      where
        done : (x : ℕ) → x < length jobs → is_member x (with_number j set) ≡ true → finish_of scenario schedule x ≤ s + cost_of scenario j
        done x below there = by (or_cases (j == x) (is_member x set) (sym (is_member-with_number x j set) ∙ there))
          where
            by : ((j == x) ≡ true) ⊎ (is_member x set ≡ true) → finish_of scenario schedule x ≤ s + cost_of scenario j
            by (inl same) = rw (sym (eqb-true j x same)) (omega (arith, starts_then))
            by (inr earlier) = omega (arith, reached.done x below earlier, turn.not_before)

        waits : (x : ℕ) → x < length jobs → is_member x (with_number j set) ≡ false → s + cost_of scenario j ≤ start_of schedule x
        waits x below out =
            let parts = or_parts (j == x) (is_member x set) (sym (is_member-with_number x j set) ∙ out) in
            behind x below parts.1 (λ same. eqb-false j x parts.0 (sym same))
