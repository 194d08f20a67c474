-- When jobs finish, by the edges of the graph.
--     edge_finish table e        when the job of the edge finishes
--     hull_with span a           the least interval that covers a and the span, if there is one
--     span_of table edges j      the hull of the finish intervals of the job's edges, if it has any
--     edges_up_to table m k      the edges into the levels up to k
--     spans_up_to table m k      the span of each job by these edges
use Rattle.std.specs.Prelude.{ℕ, zero, suc, List, [], ◌++◌, ◌==◌, filter, fold, length, map, Option, Some, None}
use Rattle.lists.specs.Numbers.{numbers_below}
use Rattle.job_model.specs.Table.{Table}
use Rattle.sag_time.specs.Interval.{Interval, hull}
use Rattle.sag_step.specs.Next.{finish_interval}
use Rattle.sag_graph.specs.declared.edge.Edge.{Edge}
use Rattle.sag_graph.specs.Levels.{level_at}

-- when the job of the edge finishes
abbrev pub edge_finish : Table → Edge → Interval
edge_finish table e = finish_interval table e.job e.window

-- the least interval that covers a and the span, if there is one
abbrev pub hull_with : Option Interval → Interval → Option Interval
hull_with None a = Some a
hull_with (Some span) a = Some (hull span a)

-- the hull of the finish intervals of the job's edges, if it has any
abbrev pub span_of : Table → List Edge → ℕ → Option Interval
span_of table edges j = fold hull_with None (map (edge_finish table) (filter (λ e. e.job == j) edges))

-- the edges into the levels up to k
unfoldable pub edges_up_to : Table → ℕ → ℕ → List Edge
edges_up_to table m zero = []
edges_up_to table m (suc k) = edges_up_to table m k ++ (level_at table m (suc k)).edges

-- the span of each job by these edges
unfoldable pub spans_by : Table → List Edge → List (Option Interval)
spans_by table edges = map (span_of table edges) (numbers_below (length table.jobs))

-- the span of each job by the edges into the levels up to k
abbrev pub spans_up_to : Table → ℕ → ℕ → List (Option Interval)
spans_up_to table m k = spans_by table (edges_up_to table m k)
