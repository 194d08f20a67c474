-- What each job lacks, through a dispatch.
--     AreCounted-first          at first
--     successors_lack           the successors of the job that is dispatched lack it
--     AreCounted-more           after a dispatch
use Rattle.std.proofs.Common.{◌≡◌, ◌≢◌, ℕ, ◌+◌, ◌<◌, ◌≤◌, ◌⊎◌, inl, inr, Bool, false, List, ◌∷◌, length, map, max, sym, ap, ◌∙◌, arith}
use Rattle.std.specs.Prelude.{All, count_by, ◌==◌}
use Rattle.std.proofs.lemmas.Bool.{cases_lt, eqb-true}
use Rattle.std.proofs.lemmas.List.Elements.{All-contains}
use Rattle.lists.specs.Numbers.{greatest}
use Rattle.job_model.specs.Table.{Table, IsTable, predecessors, successors}
use Rattle.job_model.specs.Scenario.{Fits, cost_of, release_of}
use Rattle.job_model.proofs.NeighbourLemmas.{successors_below}
use Rattle.run_meaning.specs.declared.places.Place.{Place}
use Rattle.run_meaning.specs.Ready.{finish_of}
use Rattle.run_meaning.proofs.StartsAgree.{predecessors_below}
use Rattle.replay.specs.declared.queues.Readiness.{Readiness}
use Rattle.replay.specs.Queues.{Queued, AreCounted, HasAll, Unblocks, is_dispatched, missing_of}
use Rattle.replay.proofs.Counted.{same_edges, missing_less, none_counted, none_kept, ready_more}
use Rattle.replay.proofs.InHeaps.{counted}
use Rattle.run_turns.proofs.Part.{Adds}

module _ (table : Table) (scenario : List (ℕ × ℕ)) (is_table : IsTable table) (fits : Fits table scenario) where
  -- at first
  pub AreCounted-first : (schedule : List Place) (queued : Queued) → HasAll table scenario queued → AreCounted table scenario (is_dispatched queued) schedule queued.readiness
  AreCounted-first schedule queued has = record {
    missing = λ j is_job. has.missing j is_job ∙ sym (none_counted (is_dispatched queued) (predecessors table j) (none j));
    time = λ j is_job.
        has.time j is_job ∙ with_none (release_of scenario j)
        ∙ ap (λ xs. greatest (release_of scenario j ∷ map (finish_of scenario schedule) xs)) (sym (none_kept (is_dispatched queued) (predecessors table j) (none j)));
  }
    where
      none : (j : ℕ) → All (λ i. is_dispatched queued i ≡ false) (predecessors table j)
      none j k d below = has.none _ (predecessors_below table scenario is_table fits j k d below)

      with_none : (a : ℕ) → a ≡ max a 0
      with_none a = omega arith

  module _ (done more : ℕ → Bool) (schedule places : List Place) (b core t finish : ℕ) (waits : done b ≡ false) (adds : Adds done schedule b core t more places)
      (ends : finish ≡ t + cost_of scenario b) (readiness : List Readiness) (counted_all : AreCounted table scenario done schedule readiness) where
    -- the successors of the job that is dispatched lack it
    pub successors_lack : (j : ℕ) → count_by (λ s. s == j) (successors table b) ≤ missing_of readiness j
    successors_lack j = by (cases_lt 0 (count_by (λ s. s == j) (successors table b)))
      where
        by : (0 < count_by (λ s. s == j) (successors table b)) ⊎ (count_by (λ s. s == j) (successors table b) ≤ 0) → count_by (λ s. s == j) (successors table b) ≤ missing_of readiness j
        by (inr none) = omega (arith, none)
        by (inl some) =
            let found = counted (λ s. s == j) (successors table b) (omega (arith, some)) in
            let below : found.0 < length table.jobs = All-contains (λ s. s < length table.jobs) (successors table b) found.0 (successors_below table is_table b) found.1 in
            omega (
              arith,
              same_edges b j table.edges,
              missing_less done more b waits adds.is_done adds.other_done (predecessors table j),
              counted_all.missing j (omega (arith, below, eqb-true found.0 j found.2)),
            )

    -- after a dispatch
    pub AreCounted-more : (old new : Queued) → old.readiness ≡ readiness → Unblocks table old new finish (successors table b) → AreCounted table scenario more places new.readiness
    AreCounted-more old new same walked = record {
      missing = λ j is_job.
          omega (
            arith,
            walked.missing j,
            same_edges b j table.edges,
            missing_less done more b waits adds.is_done adds.other_done (predecessors table j),
            counted_all.missing j is_job,
            ap (λ xs. missing_of xs j) same,
          );
      time = λ j is_job.
          walked.time j
          ∙ cc (
            same_edges b j table.edges,
            same,
            counted_all.time j is_job,
            finish_b,
            ready_more done more b waits adds.is_done adds.other_done (finish_of scenario schedule) (finish_of scenario places) finish_other (release_of scenario j) (predecessors table j),
          );
    }
      where
        finish_b : finish_of scenario places b ≡ finish
        finish_b = ap (λ s. s + cost_of scenario b) adds.starts ∙ sym ends

        finish_other : (i : ℕ) → i ≢ b → finish_of scenario places i ≡ finish_of scenario schedule i
        finish_other i differ = ap (λ s. s + cost_of scenario i) (adds.other_start i differ)
