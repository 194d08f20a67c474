-- Each moment of a state's interval is one at which its jobs have finished, in some run in which they come first.
use Rattle.std.proofs.Common.{◌≡◌, ℕ, suc, ◌<◌, true, List, length, Some, sym, ap, ◌∙◌, subst}
use Rattle.std.specs.Prelude.{slice_get, ◌==◌, ◌&&◌}
use Rattle.std.proofs.lemmas.Bool.{and_parts, eqb-true}
use Rattle.job_sets.specs.Subset.{is_member}
use Rattle.job_model.specs.declared.job_row.Job.{Job}
use Rattle.job_model.specs.Table.{IsTable, table_of}
use Rattle.sag_time.specs.Interval.{holds}
use Rattle.sag_step.specs.State.{SystemState, first_core}
use Rattle.graph_valid.specs.Laws.{EachJobHasEdge}
use Rattle.sag_graph.specs.Levels.{level_at}
use Rattle.sag_graph.specs.Spans.{edge_finish}
use Rattle.sag_graph.specs.Graph.{AbstractionGraph, graph_of}
use Rattle.graph_memory.specs.Held.{IsStepBetween, level_in}
use Rattle.one_core.specs.Extreme.{walk_back, scenario_with}
use Rattle.one_core.specs.Laws.{Reached, IntervalsAreReached}
use Rattle.one_core.proofs.Lists.{found_where, one-at, IsFound}
use Rattle.one_core.proofs.Exact.{IsExact}
use Rattle.one_core.proofs.Walks.{own_member, facts}
use Rattle.one_core.proofs.WalkScenarios.{walk-fits, walk-run}
use Rattle.graph_memory.proofs.GraphLists.{level-is}
use Rattle.one_core.proofs.Ends.{graph-exact}

module _ (jobs : List Job) (is_table : IsTable (table_of jobs)) (each : EachJobHasEdge) where
  abbrev graph : AbstractionGraph
  graph = graph_of (table_of jobs) 1

  exact : IsExact jobs (graph_of (table_of jobs) 1)
  exact = graph-exact jobs is_table each

  reached : (k i t : ℕ) (s : SystemState) → k < length jobs → slice_get (level_at (table_of jobs) 1 (suc k)).states i ≡ Some s → holds (first_core s) t ≡ true →
      Reached (table_of jobs) s.set.members t
  reached k i t s below there held = record {
    scenario = scenario_with (table_of jobs) (walk_back (table_of jobs) graph k f.value t);
    fits = walk-fits jobs is_table graph exact k below f.value f.is t parts.1;
    runs = λ schedule legal.
        let r = walk-run jobs is_table graph exact k below f.value f.is t parts.1 schedule legal in
        record {
          done = λ x is member. r.reaches.done x is (ap (λ (y : SystemState). is_member x y.set.members) target ∙ member);
          waits = λ x is out. r.reaches.waits x is (ap (λ (y : SystemState). is_member x y.set.members) target ∙ out);
          last = f.value.job;
          last_is_job = (facts jobs is_table graph exact k below f.value f.is).is_job;
          last_member = ap (λ (y : SystemState). is_member f.value.job y.set.members) (sym target) ∙ own_member jobs is_table graph exact k below f.value f.is t parts.1;
          last_finish = r.finishes;
        };
  }
    where
      at_graph : slice_get (level_in graph (suc k)).states i ≡ Some s
      at_graph = ap (λ l. slice_get l.states i) (level-is (table_of jobs) 1 (suc k) below) ∙ there

      f : IsFound (IsStepBetween (table_of jobs) (level_in graph k) (level_in graph (suc k))) (λ f. (f.to == i) && holds (edge_finish (table_of jobs) f) t) (level_in graph (suc k)).edges
      f = found_where (IsStepBetween (table_of jobs) (level_in graph k) (level_in graph (suc k))) (λ f. (f.to == i) && holds (edge_finish (table_of jobs) f) t) (level_in graph (suc k)).edges
          (exact.covers k i t s below at_graph held) (exact.steps k below)

      parts : ((f.value.to == i) ≡ true) × (holds (edge_finish (table_of jobs) f.value) t ≡ true)
      parts = and_parts (f.value.to == i) (holds (edge_finish (table_of jobs) f.value) t) f.passes

      target : f.is.target ≡ s
      target = one-at (level_in graph (suc k)).states f.value.to i f.is.target s f.is.to_there (eqb-true f.value.to i parts.0) at_graph

pub intervals_are_reached : EachJobHasEdge → IntervalsAreReached
intervals_are_reached each table k i t s is_table no_edges below there held =
    let same : table_of table.jobs ≡ table = λ i. record { jobs = table.jobs; edges = sym no_edges i } in
    subst (λ t'. slice_get (level_at t' 1 (suc k)).states i ≡ Some s → Reached t' s.set.members t) same
    (λ own. reached table.jobs (subst IsTable (sym same) is_table) each k i t s below own held) there
