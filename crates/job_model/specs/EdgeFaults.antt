-- The first rule that precedence rows break, once each of them names two jobs: (predecessor, successor). Rows are counted from 1.
--     edges_of rows                  the distinct edges of the rows, rising
--     with_edges table rows          the table with those edges
--     KeepEdgeRules rows             there are not too many, and they close no cycle
--     ReachedEdge rows row           the row of this number, where those before it close no cycle
--     FirstEdgeFault rows fault      the first broken rule; want of memory may come at any rows
use Rattle.std.specs.Prelude.{◌≡◌, ◌≢◌, ℕ, ◌+◌, ◌<◌, ◌≤◌, List, [], ◌∷◌, ◌++◌, fold, length, ⊤}
use Rattle.std.specs.BTreeSet.{insert_key}
use Rattle.job_model.specs.declared.limits.TheConstants.{MOST_EDGES}
use Rattle.job_model.specs.declared.fault.EdgeFault.{EdgeFault}
use Rattle.job_model.specs.declared.fault.EdgeFault.TheVariants as fault
use Rattle.job_model.specs.Cycles.{HoldsCycle}
use Rattle.job_model.specs.Table.{Table, edge_cmp}

-- the distinct edges of the rows, rising
abbrev pub edges_of : List (ℕ × ℕ) → List (ℕ × ℕ)
edges_of rows = fold (insert_key edge_cmp) [] rows

-- the table with the distinct edges of the rows, rising
abbrev pub with_edges : Table → List (ℕ × ℕ) → Table
with_edges table rows = record { jobs = table.jobs; edges = edges_of rows }

-- there are not too many rows, and they close no cycle
pub record KeepEdgeRules (rows : List (ℕ × ℕ)) : Type 0 where
  pub few : length rows ≤ MOST_EDGES
  pub no_cycle : ¬ HoldsCycle rows

-- The row of this number, where there are not too many and those before it close no cycle.
pub record ReachedEdge (rows : List (ℕ × ℕ)) (row : ℕ) : Type 0 where
  pub before : List (ℕ × ℕ)
  pub here : ℕ × ℕ
  pub after : List (ℕ × ℕ)
  pub split : rows ≡ before ++ here ∷ after
  pub place : row ≡ length before + 1
  pub few : length rows ≤ MOST_EDGES
  pub kept : ¬ HoldsCycle before

-- Too many rows; or the first row that names one job twice, or that closes a cycle with those before it.
abbrev pub FirstEdgeFault : List (ℕ × ℕ) → EdgeFault → Type 0
FirstEdgeFault rows fault.TooManyEdges = MOST_EDGES < length rows
FirstEdgeFault rows (fault.SelfEdge row) = (r : ReachedEdge rows row) × (r.here.0 ≡ r.here.1)
FirstEdgeFault rows (fault.Cycle row) = (r : ReachedEdge rows row) × (r.here.0 ≢ r.here.1) × HoldsCycle (r.before ++ r.here ∷ [])
FirstEdgeFault rows fault.Memory = ⊤
