-- Files with a row for each job, in any order. A row begins with the IDs of its job. What else is right of it is told by a
-- test `outside`: of a job's number and its row, the leftmost column that is not in its interval, if there is one.
--     ids_of row                                       the task ID and the job ID in a row
--     NamesJob table row j                             the row has the IDs of job number j
--     IsGood outside table row                         the row names a job, and no column of it is outside
--     KeepRules outside table rows                     what the rows keep, whether or not each job has one
--     GivesItem value none table items j row           the row gives job number j its item
--     GivesEach width outside value none table bytes items     the file gives each job its item
use Rattle.std.specs.Prelude.{◌≡◌, ◌≢◌, ◌<◌, ℕ, List, Option, None, length, slice_index, slice_index_or, All, AllPairs, Any}
use Rattle.csv_numbers.specs.Rows.{Rows}
use Rattle.job_model.specs.Table.{Table, id_of, job_at}

-- the task ID and the job ID
abbrev pub ids_of : List ℕ → ℕ × ℕ
ids_of row = (slice_index row 0, slice_index row 1)

-- the row has the IDs of job number j
pub record NamesJob (table : Table) (row : List ℕ) (j : ℕ) : Type 0 where
  pub is_job : j < length table.jobs
  pub ids_are : ids_of row ≡ id_of (job_at table j)

-- the row names a job, and no column of it is outside
pub record IsGood (outside : ℕ → List ℕ → Option ℕ) (table : Table) (row : List ℕ) : Type 0 where
  pub job : ℕ
  pub names : NamesJob table row job
  pub inside : outside job row ≡ None

-- each row is good, and no two have the same IDs
pub record KeepRules (outside : ℕ → List ℕ → Option ℕ) (table : Table) (rows : List (List ℕ)) : Type 0 where
  pub each : All (IsGood outside table) rows
  pub ids_differ : AllPairs (λ a b. ids_of a ≢ ids_of b) rows

-- the row gives job number j its item of the list, which is read so
pub record GivesItem {V : Type 0} (value : List ℕ → V) (none : V) (table : Table) (items : List V) (j : ℕ) (row : List ℕ) : Type 0 where
  pub names : NamesJob table row j
  pub item_is : value row ≡ slice_index_or items j none

-- The rows of the file keep the rules, and one of them gives each job its item of the list.
pub record GivesEach {V : Type 0} (width : ℕ) (outside : ℕ → List ℕ → Option ℕ) (value : List ℕ → V) (none : V) (table : Table) (bytes : List ℕ) (items : List V) : Type 0 where
  pub rows : List (List ℕ)
  pub rows_are : Rows bytes width rows
  pub kept : KeepRules outside table rows
  pub one_each : length items ≡ length table.jobs
  pub given : (j : ℕ) → j < length table.jobs → Any (GivesItem value none table items j) rows
