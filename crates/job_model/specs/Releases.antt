-- The jobs by rising earliest release.
--     release_cmp table i j          by earliest release, and at one release by number
--     release_order table            all jobs in that order, each with its earliest release
--     IsReleaseOrder table order     all jobs, each with its earliest release, by rising release, whatever the order of ties
use Rattle.std.specs.Prelude.{◌≡◌, ℕ, ◌<◌, List, All, IsPermutation, length, map}
use Rattle.std.specs.declared.cmp.Ordering.{Ordering}
use Rattle.std.specs.List.Sorted.{IsNonDecreasingBy}
use Rattle.std.specs.Ordering.{nat_cmp, then_cmp, on, is_lt}
use Rattle.lists.specs.Numbers.{numbers_below}
use Rattle.lists.specs.Sorting.{sorted_by}
use Rattle.job_model.specs.Table.{Table, job_at}

-- by earliest release, and at one release by number
abbrev pub release_cmp : Table → ℕ → ℕ → Ordering
release_cmp table = then_cmp (on (λ j. (job_at table j).rmin) nat_cmp) nat_cmp

-- all jobs by earliest release, and at one release by number, each with its release
unfoldable pub release_order : Table → List (ℕ × ℕ)
release_order table = map (λ j. ((job_at table j).rmin, j)) (sorted_by (λ i j. is_lt (release_cmp table i j)) (numbers_below (length table.jobs)))

-- All jobs by rising earliest release, each with it.
pub record IsReleaseOrder (table : Table) (order : List (ℕ × ℕ)) : Type 0 where
  pub each_job : IsPermutation (numbers_below (length table.jobs)) (map (λ e. e.1) order)
  pub own : All (λ e. (e.0 ≡ (job_at table e.1).rmin) × (e.1 < length table.jobs)) order
  pub rising : IsNonDecreasingBy (λ e. e.0) order
