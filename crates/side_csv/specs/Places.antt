-- Where the rows of a file have their jobs, while it is read.
--     Places table rows places     for each job the index of its row, if it has one
use Rattle.std.specs.Prelude.{◌≡◌, ◌<◌, ℕ, [], List, Option, None, Contains, MatchOption, length, map, slice_index_or}
use Rattle.job_model.specs.Table.{Table, id_of, job_at}
use Rattle.side_csv.specs.RowPerJob.{ids_of}

-- for each job the index of its row, if it has one
pub record Places (table : Table) (rows : List (List ℕ)) (places : List (Option ℕ)) : Type 0 where
  pub one_each : length places ≡ length table.jobs
  pub each : (j : ℕ) → j < length table.jobs → MatchOption (slice_index_or places j None)
      (¬ Contains (map ids_of rows) (id_of (job_at table j)))
      (λ k. (k < length rows) × (ids_of (slice_index_or rows k []) ≡ id_of (job_at table j)))
