-- `Covers`, of any list of jobs.
use Rattle.std.proofs.Common.{◌≡◌, ℕ, List, [], ◌∷◌, ◌++◌, ◌||◌, ap, sym, ◌∙◌, max, true}
use Rattle.std.specs.Prelude.{◌==◌}
use Rattle.job_sets.specs.Subset.{is_member, with_number}
use Rattle.job_sets.proofs.Additions.{is_member-with_number}
use Rattle.job_sets.proofs.Members.{is_member-push}
use Rattle.job_model.specs.Table.{Table}
use Rattle.run_meaning.specs.declared.places.Place.{Place}
use Rattle.run_meaning.specs.Ready.{core_of, finish_of}
use Rattle.sag_step.specs.State.{SystemState}
use Rattle.run_cover.specs.Covers.{Covers, prefix, core_end, last_start}
use Rattle.run_cover.proofs.StepCounts.{AreCertain, ArePossible}
use Rattle.run_cover.proofs.FinishTimes.{AllHold}

-- The state covers these jobs of the schedule.
pub record CoversList (m : ℕ) (scenario : List (ℕ × ℕ)) (schedule : List Place) (jobs : List ℕ) (state : SystemState) : Type 0 where
  pub set : (j : ℕ) → is_member j state.set.members ≡ is_member j jobs
  pub certain : AreCertain m (core_end scenario schedule jobs) state.high
  pub possible : ArePossible m (λ core. max (core_end scenario schedule jobs core) (last_start schedule jobs)) state.low
  pub tracked : AllHold (finish_of scenario schedule) state.ends
  pub last : (i : ℕ) → is_member i state.last.members ≡ true → finish_of scenario schedule i ≡ core_end scenario schedule jobs (core_of schedule i)

module _ (table : Table) (m : ℕ) (scenario : List (ℕ × ℕ)) (schedule : List Place) (count : ℕ) (state : SystemState) where
  pub list-from_covers : Covers table m scenario schedule count state → CoversList m scenario schedule (prefix table schedule count) state
  list-from_covers c = record { set = c.set; certain = c.certain; possible = c.possible; tracked = c.tracked; last = c.last }

  pub covers-from_list : CoversList m scenario schedule (prefix table schedule count) state → Covers table m scenario schedule count state
  covers-from_list c = record { set = c.set; certain = c.certain; possible = c.possible; tracked = c.tracked; last = c.last }

-- sets of the same members have the same with one job more
pub members_more : (j : ℕ) (set jobs : List ℕ) → ((i : ℕ) → is_member i set ≡ is_member i jobs) → (i : ℕ) → is_member i (with_number j set) ≡ is_member i (jobs ++ j ∷ [])
members_more j set jobs same i = is_member-with_number i j set ∙ ap (λ b. (j == i) || b) (same i) ∙ sym (is_member-push i j jobs)
