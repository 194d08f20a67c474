-- The least and the greatest finish of a job over the legal schedules of the first scenarios of a sequence.
--     IsLeastFinish table m trials count j t place       t is the least, and that scenario the first that attains it
--     IsGreatestFinish table m trials count j t place    the same of the greatest
--     AreInnerEnds table m trials count j ends           the ends are these two
--     HoldInnerEnds trials bounds                        the ends of each job are so, as far as scenarios were taken
use Rattle.std.specs.Prelude.{◌≡◌, ℕ, ◌<◌, ◌≤◌, List, [], length, slice_index_or}
use Rattle.job_model.specs.Table.{Table}
use Rattle.run_meaning.specs.declared.places.Place.{Place}
use Rattle.run_meaning.specs.Legal.{Legal}
use Rattle.run_meaning.specs.Ready.{finish_of}
use Rattle.gap_report.specs.declared.inner_ends.InnerEnds.{InnerEnds}
use Rattle.gap_report.specs.GapRows.{no_inner_ends}
use Rattle.gap_report.specs.InnerBounds.{InnerBounds}

module _ (table : Table) (m : ℕ) (trials : ℕ → List (ℕ × ℕ)) (count j : ℕ) where
  -- In each legal schedule of the scenario of that place the job finishes at t, in those before it later, and in none of the
  -- first so many earlier.
  pub record IsLeastFinish (t place : ℕ) : Type 0 where
    pub among : place < count
    pub attained : (schedule : List Place) → Legal table m (trials place) schedule → finish_of (trials place) schedule j ≡ t
    pub first : (k : ℕ) (schedule : List Place) → k < place → Legal table m (trials k) schedule → t < finish_of (trials k) schedule j
    pub least : (k : ℕ) (schedule : List Place) → k < count → Legal table m (trials k) schedule → t ≤ finish_of (trials k) schedule j

  -- In each legal schedule of the scenario of that place the job finishes at t, in those before it sooner, and in none of the
  -- first so many later.
  pub record IsGreatestFinish (t place : ℕ) : Type 0 where
    pub among : place < count
    pub attained : (schedule : List Place) → Legal table m (trials place) schedule → finish_of (trials place) schedule j ≡ t
    pub first : (k : ℕ) (schedule : List Place) → k < place → Legal table m (trials k) schedule → finish_of (trials k) schedule j < t
    pub greatest : (k : ℕ) (schedule : List Place) → k < count → Legal table m (trials k) schedule → finish_of (trials k) schedule j ≤ t

  -- the ends of the job are the least and the greatest finish, each with the first scenario that attains it
  pub record AreInnerEnds (ends : InnerEnds) : Type 0 where
    pub lo : IsLeastFinish ends.lo ends.lo_trial
    pub hi : IsGreatestFinish ends.hi ends.hi_trial

-- As far as scenarios of the sequence were taken, the ends of each job are those over them.
pub record HoldInnerEnds (trials : ℕ → List (ℕ × ℕ)) (bounds : InnerBounds) : Type 0 where
  pub before : bounds.taken ≡ 0 → bounds.ends ≡ []
  pub after : 0 < bounds.taken → length bounds.ends ≡ length bounds.table.jobs
  pub each : (j : ℕ) → j < length bounds.table.jobs → 0 < bounds.taken →
      AreInnerEnds bounds.table bounds.cores trials bounds.taken j (slice_index_or bounds.ends j no_inner_ends)
