-- Scenarios in which a job finishes at an end of its span, on one core without precedence.
--     own_end end span                        that end of an interval
--     core_free_by level from                 when the core is certainly free in a state of a level
--     start_for table e t                     when the job of an edge starts that finishes at t
--     settled_job table e t                   that job, with its release and its cost
--     edge_finishing_at table level to t      the first edge into a state by which its job may finish at t
--     walk_back table graph k e t             the jobs that the walk from an edge back to the root passes
--     numbered_edges graph                    the edges, each with the number of the level that it starts from
--     end_of_span graph j end                 that end of job j's span
--     attaining_edge table graph j end        the first edge of job j that has this end of the job's span
--     jobs_on_walk table graph j end          the jobs that the walk back from it passes
--     scenario_with table settled             the scenario of these jobs, in which all others come late and run long
--     extreme table graph j end               the scenario for that end of job j's span
use Rattle.std.specs.Prelude.{ℕ, zero, suc, List, [], ◌∷◌, ◌-◌, ◌==◌, ◌&&◌, min, nat_eq, length, map, flat_map, find, Option, None, unwrap_or, slice_get, slice_index_or}
use Rattle.std.specs.Map.{lookup}
use Rattle.std.specs.Option.{option_map_or}
use Rattle.std.specs.List.{enumerate_from}
use Rattle.lists.specs.Numbers.{numbers_below}
use Rattle.job_model.specs.Table.{Table, job_at}
use Rattle.job_model.specs.declared.interval_end.End.{End}
use Rattle.job_model.specs.declared.interval_end.End.TheVariants.{Best, Worst}
use Rattle.sag_time.specs.Interval.{Interval, holds}
use Rattle.sag_step.specs.State.{first_core}
use Rattle.sag_graph.specs.declared.edge.Edge.{Edge}
use Rattle.sag_graph.specs.Levels.{Level}
use Rattle.sag_graph.specs.Spans.{edge_finish}
use Rattle.sag_graph.specs.Graph.{AbstractionGraph}
use Rattle.graph_memory.specs.Held.{level_in}

-- that end of an interval
abbrev pub own_end : End → Interval → ℕ
own_end Best s = s.lo
own_end Worst s = s.hi

-- when the core is certainly free in state number `from` of a level
abbrev pub core_free_by : Level → ℕ → ℕ
core_free_by level from = option_map_or (λ s. (first_core s).hi) (slice_get level.states from) 0

-- The job of the edge finishes at t. It starts as late as it can.
abbrev pub start_for : Table → Edge → ℕ → ℕ
start_for table e t = min e.window.lst (t - (job_at table e.job).cmin)

-- the job, with its release and its cost
abbrev pub settled_job : Table → Edge → ℕ → ℕ × (ℕ × ℕ)
settled_job table e t = let start = start_for table e t in (e.job, (min start (job_at table e.job).rmax, t - start))

-- the first edge into state number `to` of the level that may finish at t
abbrev pub edge_finishing_at : Table → Level → ℕ → ℕ → Option Edge
edge_finishing_at table level to t = find (λ e. (e.to == to) && holds (edge_finish table e) t) level.edges

-- The walk back from an edge out of level k whose job finishes at t: the jobs that it passes, each as it is settled.
abbrev pub walk_back : Table → AbstractionGraph → ℕ → Edge → ℕ → List (ℕ × (ℕ × ℕ))
walk_back table graph zero e t = settled_job table e t ∷ []
walk_back table graph (suc k) e t =
    let level = level_in graph (suc k) in
    let before = min (start_for table e t) (core_free_by level e.from) in
    settled_job table e t ∷ option_map_or (λ f. walk_back table graph k f before) (edge_finishing_at table level e.from before) []

-- the edges, each with the number of the level that it starts from
abbrev pub numbered_edges : AbstractionGraph → List (ℕ × Edge)
numbered_edges graph = flat_map (λ l. map (λ e. (l.0 - 1, e)) l.1.edges) (enumerate_from 0 graph.levels)

-- that end of job j's span, or 0 where it has none
abbrev pub end_of_span : AbstractionGraph → ℕ → End → ℕ
end_of_span graph j end = option_map_or (own_end end) (slice_index_or graph.spans j None) 0

-- the first edge of job j that has this end of the job's span
abbrev pub attaining_edge : Table → AbstractionGraph → ℕ → End → Option (ℕ × Edge)
attaining_edge table graph j end =
    find (λ e. (e.1.job == j) && (own_end end (edge_finish table e.1) == end_of_span graph j end)) (numbered_edges graph)

-- the jobs that the walk back from it passes
abbrev pub jobs_on_walk : Table → AbstractionGraph → ℕ → End → List (ℕ × (ℕ × ℕ))
jobs_on_walk table graph j end =
    option_map_or (λ e. walk_back table graph e.0 e.1 (end_of_span graph j end)) (attaining_edge table graph j end) []

-- the jobs that are settled, and for every other job its latest release and its greatest cost
abbrev pub scenario_with : Table → List (ℕ × (ℕ × ℕ)) → List (ℕ × ℕ)
scenario_with table settled =
    map (λ i. unwrap_or (lookup (nat_eq i) settled) ((job_at table i).rmax, (job_at table i).cmax)) (numbers_below (length table.jobs))

-- the scenario for that end of job j's span
abbrev pub extreme : Table → AbstractionGraph → ℕ → End → List (ℕ × ℕ)
extreme table graph j end = scenario_with table (jobs_on_walk table graph j end)
