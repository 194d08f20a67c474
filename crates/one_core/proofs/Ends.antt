-- Both ends of each span are attained.
use Rattle.std.proofs.Common.{◌≡◌, ℕ, zero, suc, ◌<◌, ◌≤◌, true, List, [], length, Some, sym, ap, ◌∙◌, subst, arith}
use Rattle.std.specs.Prelude.{slice_get, ◌==◌, ◌&&◌}
use Rattle.std.specs.List.{AllByRecursion, list_any}
use Rattle.std.specs.Option.{option_map_or}
use Rattle.std.proofs.lemmas.Option.{none-some, same_Some}
use Rattle.job_model.specs.declared.job_row.Job.{Job}
use Rattle.job_model.specs.Table.{Table, IsTable, table_of}
use Rattle.job_model.specs.Scenario.{Fits}
use Rattle.sag_time.specs.Interval.{holds}
use Rattle.run_meaning.specs.declared.places.Place.{Place}
use Rattle.run_meaning.specs.Ready.{finish_of}
use Rattle.run_meaning.specs.Legal.{Legal}
use Rattle.sag_step.specs.State.{SystemState, root, first_core}
use Rattle.graph_valid.specs.Laws.{EachJobHasEdge}
use Rattle.sag_graph.specs.declared.edge.Edge.{Edge}
use Rattle.sag_graph.specs.Levels.{Level, level_at, next_level}
use Rattle.sag_graph.specs.Spans.{edge_finish}
use Rattle.sag_graph.specs.Graph.{AbstractionGraph, graph_of}
use Rattle.graph_memory.specs.Held.{IsStepBetween, level_in}
use Rattle.job_model.specs.declared.interval_end.End.{End}
use Rattle.job_model.specs.declared.interval_end.End.TheVariants.{Best, Worst}
use Rattle.one_core.specs.Extreme.{own_end, attaining_edge, walk_back, jobs_on_walk, scenario_with, end_of_span}
use Rattle.one_core.specs.Laws.{IsAttained, EndsAreAttained}
use Rattle.one_core.proofs.Grouping.{IsOneCore}
use Rattle.one_core.specs.Walk.{IsOnWalk}
use Rattle.graph_memory.proofs.OfferSteps.{edges_are_steps}
use Rattle.one_core.proofs.Levels.{is_job, levels-fine, levels-cover}
use Rattle.one_core.proofs.Exact.{IsExact}
use Rattle.one_core.proofs.Walks.{facts, holds-from}
use Rattle.one_core.proofs.WalkScenarios.{walk-fits, walk-run}
use Rattle.graph_memory.proofs.GraphLists.{level-is}
use Rattle.one_core.proofs.Spans.{has_span, attaining}

module _ (jobs : List Job) (is_table : IsTable (table_of jobs)) (each : EachJobHasEdge) where
  abbrev table : Table
  table = table_of jobs

  abbrev n : ℕ
  n = length jobs

  abbrev graph : AbstractionGraph
  graph = graph_of table 1

  -- the graph of the table is exact
  root-begins : (i : ℕ) (s : SystemState) → slice_get (level_at table 1 0).states i ≡ Some s → (s.set.members ≡ []) × ((first_core s).hi ≡ 0)
  unfolding level_at next_level
  root-begins zero s e =
      let same = same_Some (root table 1) s e in
      (ap (λ (x : SystemState). x.set.members) (sym same), ap (λ (x : SystemState). (first_core x).hi) (sym same))
  root-begins (suc i) s e = absurd (none-some s e)

  pub graph-exact : IsExact jobs graph
  graph-exact = record {
    fine = λ k most. subst (λ (l : Level). AllByRecursion (IsOneCore n k) l.states) (sym (level-is table 1 k most)) (levels-fine jobs is_table k);
    begins = λ i s e. root-begins i s (subst (λ (l : Level). slice_get l.states i ≡ Some s) (level-is table 1 0 (omega arith)) e);
    steps = λ k below.
        subst (λ (l : Level). AllByRecursion (IsStepBetween (table_of jobs) (level_in graph k) l) l.edges) (sym (level-is table 1 (suc k) below))
        (subst (λ (l : Level). AllByRecursion (IsStepBetween (table_of jobs) l (level_at table 1 (suc k))) (level_at table 1 (suc k)).edges) (sym (level-is table 1 k (omega (arith, below))))
        (edges_are_steps (table_of jobs) 1 k));
    covers = λ k i t s below e h.
        subst (λ (l : Level). list_any (λ f. (f.to == i) && holds (edge_finish table f) t) l.edges ≡ true) (sym (level-is table 1 (suc k) below))
        (levels-cover jobs is_table k i t s (subst (λ (l : Level). slice_get l.states i ≡ Some s) (level-is table 1 (suc k) below) e) h);
  }

  -- ---- the scenario of an end

  module _ (j : ℕ) (below : j < n) (end : End) where
    abbrev k : ℕ
    k = (attaining jobs is_table each j below end).level

    abbrev e : Edge
    e = (attaining jobs is_table each j below end).edge

    abbrev t : ℕ
    t = end_of_span graph j end

    pub k_below : (attaining jobs is_table each j below end).level < n
    k_below = (attaining jobs is_table each j below end).is.below

    pub step : IsStepBetween (table_of jobs) (level_in graph k) (level_in graph (suc k)) e
    step =
        subst (λ (l : Level). IsStepBetween (table_of jobs) (level_in graph k) l e) (sym (level-is table 1 (suc k) (omega (arith, k_below))))
        (subst (λ (l : Level). IsStepBetween (table_of jobs) l (level_at table 1 (suc k)) e) (sym (level-is table 1 k (omega (arith, k_below))))
        (attaining jobs is_table each j below end).is.step)

    pub in_edge : holds (edge_finish table e) t ≡ true
    in_edge = subst (λ u. holds (edge_finish table e) u ≡ true) (attaining jobs is_table each j below end).end_is (by end)
      where
        order : (edge_finish table e).lo ≤ (edge_finish table e).hi
        order = let w = facts jobs is_table graph graph-exact k k_below e step in omega (arith, w.in_order, (is_job jobs is_table e.job w.is_job).costs)

        by : (end : End) → holds (edge_finish table e) (own_end end (edge_finish table e)) ≡ true
        by Best = holds-from (edge_finish table e) (edge_finish table e).lo (omega arith) order
        by Worst = holds-from (edge_finish table e) (edge_finish table e).hi order (omega arith)

    -- the walk begins at the edge that is found
    pub attains-on_walk : (l : ℕ) (f : Edge) → attaining_edge table graph j end ≡ Some (l, f) → IsOnWalk table graph l f (end_of_span graph j end)
    attains-on_walk l f found =
        let same : (k, e) ≡ (l, f) = same_Some (k, e) (l, f) (sym (attaining jobs is_table each j below end).found ∙ found) in
        subst (λ (p : ℕ × Edge). IsOnWalk table graph p.0 p.1 (end_of_span graph j end)) same (record { below = k_below; step = step; in_edge = in_edge })

    settled_job-is : jobs_on_walk table graph j end ≡ walk_back table graph k e t
    settled_job-is = ap (λ o. option_map_or (λ f. walk_back table graph f.0 f.1 t) o []) (attaining jobs is_table each j below end).found

    finishes : (schedule : List Place) → Legal table 1 (scenario_with table (walk_back table graph k e t)) schedule → finish_of (scenario_with table (walk_back table graph k e t)) schedule j ≡ t
    finishes schedule legal =
        subst (λ x. finish_of (scenario_with table (walk_back table graph k e t)) schedule x ≡ t) (attaining jobs is_table each j below end).is_job
        (walk-run jobs is_table graph graph-exact k k_below e step t in_edge schedule legal).finishes

    pub attains : IsAttained table j end
    attains = record {
      has_span = has_span jobs is_table each j below;
      fits = subst (λ s. Fits table (scenario_with table s)) (sym settled_job-is) (walk-fits jobs is_table graph graph-exact k k_below e step t in_edge);
      finish = subst (λ s. (schedule : List Place) → Legal table 1 (scenario_with table s) schedule → finish_of (scenario_with table s) schedule j ≡ t) (sym settled_job-is) finishes;
    }

pub ends_are_attained : EachJobHasEdge → EndsAreAttained
ends_are_attained each table j end is_table no_edges below =
    let same : table_of table.jobs ≡ table = λ i. record { jobs = table.jobs; edges = sym no_edges i } in
    subst (λ t. IsAttained t j end) same (attains table.jobs (subst IsTable (sym same) is_table) each j below end)
