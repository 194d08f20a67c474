-- What holds of a job in every legal run of every scenario.
--     FinishesWithin table m j lo hi     job j finishes from lo to hi, whatever the releases and costs
--     MeetsDeadline table m j            it finishes by its deadline
use Rattle.std.specs.Prelude.{ℕ, List, ◌≤◌}
use Rattle.job_model.specs.Table.{Table, job_at}
use Rattle.job_model.specs.Scenario.{Fits}
use Rattle.run_meaning.specs.declared.places.Place.{Place}
use Rattle.run_meaning.specs.Ready.{finish_of}
use Rattle.run_meaning.specs.Legal.{Legal}

-- in each legal run of every scenario the job finishes from lo to hi
abbrev pub FinishesWithin : Table → ℕ → ℕ → ℕ → ℕ → Type 0
FinishesWithin table m j lo hi =
    (scenario : List (ℕ × ℕ)) (schedule : List Place) → Fits table scenario → Legal table m scenario schedule →
    (lo ≤ finish_of scenario schedule j) × (finish_of scenario schedule j ≤ hi)

-- in each legal run of every scenario the job finishes by its deadline
abbrev pub MeetsDeadline : Table → ℕ → ℕ → Type 0
MeetsDeadline table m j =
    (scenario : List (ℕ × ℕ)) (schedule : List Place) → Fits table scenario → Legal table m scenario schedule →
    finish_of scenario schedule j ≤ (job_at table j).deadline
