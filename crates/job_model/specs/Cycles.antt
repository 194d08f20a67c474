-- Cycles of edges.
--     HoldsCycle edges               a walk leads from a job back to itself
--     IsFirstClosing rows k          the row at place k closes a cycle with those before it, which close none
use Rattle.std.specs.Prelude.{ℕ, suc, ◌+◌, ◌<◌, List, length, take}
use Rattle.job_model.specs.Table.{Walk}

-- a walk leads from a job back to itself
pub record HoldsCycle (edges : List (ℕ × ℕ)) : Type 0 where
  pub job : ℕ
  pub further : ℕ
  pub walk : Walk edges job job (suc further)

-- the row at place k closes a cycle with those before it, which close none
pub record IsFirstClosing (rows : List (ℕ × ℕ)) (k : ℕ) : Type 0 where
  pub is_row : k < length rows
  pub closes : HoldsCycle (take (k + 1) rows)
  pub none_before : ¬ HoldsCycle (take k rows)
