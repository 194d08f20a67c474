-- What holds of jobs in every legal run.
--     HoldInEachRun table m jobs         all jobs finish within their intervals, and by their deadlines where their marks are ok
use Rattle.std.specs.Prelude.{◌≡◌, ℕ, List, length, slice_get, Some, IsTrue}
use Rattle.job_model.specs.Table.{Table}
use Rattle.run_meaning.specs.Guarantees.{FinishesWithin, MeetsDeadline}
use Rattle.graph_check.specs.Entries.{JobEntry, is_ok_mark}

-- There is an interval and a mark for each job. Each job finishes within its interval, and by its deadline where its mark is ok.
pub record HoldInEachRun (table : Table) (m : ℕ) (jobs : List JobEntry) : Type 0 where
  pub all_jobs : length jobs ≡ length table.jobs
  pub within : (j : ℕ) (s : JobEntry) → slice_get jobs j ≡ Some s → FinishesWithin table m j s.span.lo s.span.hi
  pub deadline : (j : ℕ) (s : JobEntry) → slice_get jobs j ≡ Some s → IsTrue (is_ok_mark s.mark) → MeetsDeadline table m j
