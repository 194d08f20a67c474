-- The first rule that the rows of a job table break. Rows and columns are counted from 1.
--     limited a, spans a             the columns of a row with a limit, and those that may not be above the next
--     first_above columns            the leftmost column with too great a number
--     ReachedJobRow rows row            the row of this number, where those before it keep all rules
--     FirstTableFault rows fault     the first broken rule; want of memory may come at any rows
use Rattle.std.specs.Prelude.{◌≡◌, ℕ, ◌+◌, ◌<◌, ◌≤◌, List, [], ◌∷◌, ◌++◌, Option, None, Some, length, find, nat_lt, slice_index_or, ⊤}
use Rattle.std.specs.Option.{option_map}
use Rattle.job_model.specs.declared.job_row.Job.{Job}
use Rattle.job_model.specs.declared.limits.TheConstants.{MOST_JOBS, MOST_ARRIVAL, MOST_COST}
use Rattle.job_model.specs.declared.fault.TableFault.{TableFault}
use Rattle.job_model.specs.declared.fault.TableFault.TheVariants as fault
use Rattle.job_model.specs.Table.{HaveOneId, IsJob, IsTable, no_job, table_of}

-- the columns with a limit: the column's number, what stands there, and the limit
abbrev pub limited : Job → List (ℕ × ℕ × ℕ)
limited a = (3, a.rmin, MOST_ARRIVAL) ∷ (4, a.rmax, MOST_ARRIVAL) ∷ (5, a.cmin, MOST_COST) ∷ (6, a.cmax, MOST_COST) ∷ []

-- the columns that may not be above the next: the column's number, what stands there, and what stands in the next
abbrev pub spans : Job → List (ℕ × ℕ × ℕ)
spans a = (3, a.rmin, a.rmax) ∷ (5, a.cmin, a.cmax) ∷ []

-- the leftmost column in which more stands than may
abbrev pub first_above : List (ℕ × ℕ × ℕ) → Option ℕ
first_above columns = option_map (λ c. c.0) (find (λ c. nat_lt c.2 c.1) columns)

-- The row of this number, where there are not too many and those before it are a table.
pub record ReachedJobRow (rows : List Job) (row : ℕ) : Type 0 where
  pub before : List Job
  pub here : Job
  pub after : List Job
  pub split : rows ≡ before ++ here ∷ after
  pub place : row ≡ length before + 1
  pub few : length rows ≤ MOST_JOBS
  pub kept : IsTable (table_of before)

-- The row of this number is the first that breaks a rule, and the fault is the first rule that it breaks.
abbrev pub FirstTableFault : List Job → TableFault → Type 0
FirstTableFault rows fault.TooMany = MOST_JOBS < length rows
FirstTableFault rows (fault.OverLimit row column) = (r : ReachedJobRow rows row) × (first_above (limited r.here) ≡ Some column)
FirstTableFault rows (fault.SpanReversed row column) = (r : ReachedJobRow rows row) × (first_above (limited r.here) ≡ None) × (first_above (spans r.here) ≡ Some column)
FirstTableFault rows (fault.ZeroCost row) = (r : ReachedJobRow rows row) × (first_above (limited r.here) ≡ None) × (first_above (spans r.here) ≡ None) × (r.here.cmin ≡ 0)
FirstTableFault rows (fault.Twice row earlier) = (r : ReachedJobRow rows row) × IsJob r.here × (k : ℕ) × (k < length r.before) × (earlier ≡ k + 1) × HaveOneId (slice_index_or r.before k no_job) r.here
FirstTableFault rows fault.Memory = ⊤
