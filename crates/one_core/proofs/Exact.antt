-- What of a graph on one core makes both ends attained.
use Rattle.std.proofs.Common.{◌≡◌, ℕ, suc, ◌<◌, ◌≤◌, true, List, [], length, Some}
use Rattle.std.specs.Prelude.{slice_get, ◌==◌, ◌&&◌}
use Rattle.std.specs.List.{AllByRecursion, list_any}
use Rattle.job_model.specs.declared.job_row.Job.{Job}
use Rattle.job_model.specs.Table.{table_of}
use Rattle.sag_time.specs.Interval.{holds}
use Rattle.sag_step.specs.State.{SystemState, first_core}
use Rattle.sag_graph.specs.Spans.{edge_finish}
use Rattle.sag_graph.specs.Graph.{AbstractionGraph}
use Rattle.graph_memory.specs.Held.{IsStepBetween, level_in}
use Rattle.one_core.proofs.Grouping.{IsOneCore}

-- The states of level k are of one core and have k jobs, the first level is the root, each edge is a step, and each
-- moment of a state's interval is one at which an edge into it may finish.
pub record IsExact (jobs : List Job) (graph : AbstractionGraph) : Type 0 where
  pub fine : (k : ℕ) → k ≤ length jobs → AllByRecursion (IsOneCore (length jobs) k) (level_in graph k).states
  pub begins : (i : ℕ) (s : SystemState) → slice_get (level_in graph 0).states i ≡ Some s → (s.set.members ≡ []) × ((first_core s).hi ≡ 0)
  pub steps : (k : ℕ) → k < length jobs → AllByRecursion (IsStepBetween (table_of jobs) (level_in graph k) (level_in graph (suc k))) (level_in graph (suc k)).edges
  pub covers : (k i t : ℕ) (s : SystemState) → k < length jobs → slice_get (level_in graph (suc k)).states i ≡ Some s → holds (first_core s) t ≡ true →
      list_any (λ e. (e.to == i) && holds (edge_finish (table_of jobs) e) t) (level_in graph (suc k)).edges ≡ true
