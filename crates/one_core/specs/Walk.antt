-- What the code of the walk speaks of.
--     latest_rows table              for each job its latest release and its greatest cost
--     overlaid table rows told       such rows, with the releases and costs of the jobs that are settled
--     HaveJobs table edges           the edges are of jobs of the table
--     IsOnWalk table graph k e t     the edge is a step from level k, and its job may finish at t
use Rattle.std.specs.Prelude.{ℕ, suc, List, ◌<◌, All, nat_eq, length, map, unwrap_or, slice_index_or, IsTrue}
use Rattle.std.specs.Map.{lookup}
use Rattle.lists.specs.Numbers.{numbers_below}
use Rattle.job_model.specs.Table.{Table, job_at}
use Rattle.sag_time.specs.Interval.{holds}
use Rattle.sag_graph.specs.declared.edge.Edge.{Edge}
use Rattle.sag_graph.specs.Spans.{edge_finish}
use Rattle.sag_graph.specs.Graph.{AbstractionGraph}
use Rattle.graph_memory.specs.Held.{IsStepBetween, level_in}

-- for each job its latest release and its greatest cost
abbrev pub latest_rows : Table → List (ℕ × ℕ)
latest_rows table = map (λ i. ((job_at table i).rmax, (job_at table i).cmax)) (numbers_below (length table.jobs))

-- rows of a release and a cost by job, with those of the jobs that are told
abbrev pub overlaid : Table → List (ℕ × ℕ) → List (ℕ × (ℕ × ℕ)) → List (ℕ × ℕ)
overlaid table rows told = map (λ i. unwrap_or (lookup (nat_eq i) told) (slice_index_or rows i (0, 0))) (numbers_below (length table.jobs))

-- the edges are of jobs of the table
abbrev pub HaveJobs : Table → List Edge → Type 0
HaveJobs table edges = All (λ e. e.job < length table.jobs) edges

-- The edge is a step from level k, and its job may finish at t by it.
pub record IsOnWalk (table : Table) (graph : AbstractionGraph) (k : ℕ) (e : Edge) (t : ℕ) : Type 0 where
  pub below : k < length table.jobs
  pub step : IsStepBetween table (level_in graph k) (level_in graph (suc k)) e
  pub in_edge : IsTrue (holds (edge_finish table e) t)
