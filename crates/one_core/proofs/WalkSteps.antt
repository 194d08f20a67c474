-- What the code of the walk finds in the graph of a table without precedence.
use Rattle.std.proofs.Common.{◌≡◌, ℕ, zero, suc, ◌+◌, ◌<◌, ◌≤◌, List, [], ◌∷◌, length, map, min, Option, Some, None, refl, sym, ap, ◌∙◌, subst, arith}
use Rattle.std.specs.Prelude.{find, ◌==◌, ◌&&◌, nat_eq, All}
use Rattle.std.specs.List.{AllByRecursion}
use Rattle.std.specs.Map.{lookup}
use Rattle.std.specs.Option.{option_map_or}
use Rattle.std.proofs.lemmas.Bool.{false≢true}
use Rattle.std.proofs.lemmas.List.Elements.{All-nil, All-from_recursion, All-from_get_or}
use Rattle.std.proofs.lemmas.List.FromFn.{get_or-map-range_with_len, length-map-range_with_len}
use Rattle.job_sets.specs.Subset.{is_member}
use Rattle.job_model.specs.declared.job_row.Job.{Job}
use Rattle.job_model.specs.Table.{Table, IsTable, table_of, job_at}
use Rattle.sag_time.specs.Interval.{holds}
use Rattle.sag_step.specs.State.{SystemState, HeldState, first_core, states_of}
use Rattle.graph_valid.specs.Laws.{EachJobHasEdge}
use Rattle.sag_graph.specs.declared.edge.Edge.{Edge}
use Rattle.sag_graph.specs.Levels.{Level, level_at, next_level}
use Rattle.sag_graph.specs.Spans.{edge_finish}
use Rattle.sag_graph.specs.Graph.{AbstractionGraph, graph_of}
use Rattle.graph_memory.specs.Held.{IsStepBetween, level_in}
use Rattle.graph_builder.specs.Filling.{no_level}
use Rattle.job_model.specs.declared.interval_end.End.{End}
use Rattle.one_core.specs.Extreme.{core_free_by, start_for, settled_job, edge_finishing_at, walk_back, attaining_edge, end_of_span, scenario_with, extreme}
use Rattle.one_core.specs.Walk.{IsOnWalk, HaveJobs, latest_rows, overlaid}
use Rattle.one_core.proofs.Overlays.{overlaid-latest, overlaid-none}
use Rattle.graph_memory.proofs.GraphLists.{levels_to, levels-are}
use Rattle.lists.proofs.Elements.{recursion_weaker}
use Rattle.one_core.proofs.OneWindows.{OneWindow-from}
use Rattle.one_core.proofs.Grouping.{IsOneCore}
use Rattle.graph_memory.proofs.OfferSteps.{edges_are_steps}
use Rattle.one_core.proofs.Exact.{IsExact}
use Rattle.one_core.proofs.Walks.{facts, Back, back, walk-settles}
use Rattle.one_core.proofs.Ends.{graph-exact, attains-on_walk}

-- when the job of the edge before finishes
abbrev pub time_before : Table → AbstractionGraph → ℕ → Edge → ℕ → ℕ
time_before table graph k e t = min (start_for table e t) (core_free_by (level_in graph k) e.from)

-- the edge before, on the walk back from an edge out of the level after level k
pub record IsBefore (table : Table) (graph : AbstractionGraph) (k level : ℕ) (e : Edge) (t : ℕ) : Type 0 where
  pub edge : Edge
  pub found : edge_finishing_at table (level_in graph level) e.from (time_before table graph level e t) ≡ Some edge
  pub on_walk : IsOnWalk table graph k edge (time_before table graph level e t)
  pub walk : walk_back table graph level e t ≡ settled_job table e t ∷ walk_back table graph k edge (time_before table graph level e t)
  pub alone : lookup (nat_eq e.job) (walk_back table graph k edge (time_before table graph level e t)) ≡ None

-- what the code of the walk needs of the graph
pub record IsWalkable (table : Table) (graph : AbstractionGraph) : Type 0 where
  pub jobs : (k : ℕ) (e : Edge) (t : ℕ) → IsOnWalk table graph k e t → e.job < length table.jobs
  pub levels : length graph.levels ≡ length table.jobs + 1
  pub before : (k level : ℕ) (e : Edge) (t : ℕ) → suc k ≡ level → IsOnWalk table graph level e t → IsBefore table graph k level e t
  pub have_jobs : All (λ l. HaveJobs table l.edges) graph.levels
  pub have_core : (k : ℕ) (states : List HeldState) → k ≤ length table.jobs → states_of states ≡ (level_in graph k).states → All (λ s. 0 < length s.state.high) states
  pub begins : (j : ℕ) (end : End) (k : ℕ) (e : Edge) → j < length table.jobs → attaining_edge table graph j end ≡ Some (k, e) → IsOnWalk table graph k e (end_of_span graph j end)

-- what is found among the edges of the level is the edge before
pub found-edge : (table : Table) (graph : AbstractionGraph) (k level : ℕ) (e : Edge) (t : ℕ) (b : IsBefore table graph k level e t) (edges : List Edge) (time : ℕ) (r : Option Edge) →
    edges ≡ (level_in graph level).edges → time ≡ time_before table graph level e t → r ≡ find (λ f. (f.to == e.from) && holds (edge_finish table f) time) edges → r ≡ Some b.edge
found-edge table graph k level e t b edges time r same_edges same_time is =
    is ∙ ap (λ u. find (λ f. (f.to == e.from) && holds (edge_finish table f) u) edges) same_time
    ∙ ap (find (λ f. (f.to == e.from) && holds (edge_finish table f) (time_before table graph level e t))) same_edges ∙ b.found

have-core : (size k : ℕ) (xs : List HeldState) (ys : List SystemState) → states_of xs ≡ ys → AllByRecursion (IsOneCore size k) ys → AllByRecursion (λ s. 0 < length s.state.high) xs
have-core size k [] ys same fine = tt
have-core size k (x ∷ xs) [] same fine = cc
have-core size k (x ∷ xs) (y ∷ ys) same fine =
    let first : x.state ≡ y = cc in
    let rest : map (λ (s : HeldState). s.state) xs ≡ ys = cc in
    (rw (first, fine.0.high) (omega arith), have-core size k xs ys rest fine.1)

module _ (jobs : List Job) (is_table : IsTable (table_of jobs)) (each : EachJobHasEdge) where
  abbrev table : Table
  table = table_of jobs

  abbrev graph : AbstractionGraph
  graph = graph_of table 1

  exact : IsExact jobs graph
  exact = graph-exact jobs is_table each

  edge_before : (k : ℕ) (e : Edge) (t : ℕ) → IsOnWalk table graph (suc k) e t → IsBefore table graph k (suc k) e t
  edge_before k e t on = record {
    edge = b.edge;
    found = b.found;
    on_walk = subst (λ u. IsOnWalk table graph k b.edge u) b.time_at (record { below = omega (arith, on.below); step = b.before; in_edge = b.in_edge });
    walk = b.walk ∙ ap (λ u. settled_job table e t ∷ walk_back table graph k b.edge u) b.time_at;
    alone = ap (λ u. lookup (nat_eq e.job) (walk_back table graph k b.edge u)) (sym b.time_at) ∙ none (lookup (nat_eq e.job) (walk_back table graph k b.edge b.time)) refl;
  }
    where
      b : Back jobs is_table graph exact k e on.step t
      b = back jobs is_table graph exact k on.below e on.step t on.in_edge

      none : (o : Option (ℕ × ℕ)) → lookup (nat_eq e.job) (walk_back table graph k b.edge b.time) ≡ o → o ≡ None
      none None is = refl
      none (Some v) is =
          let r = walk-settles jobs is_table graph exact k (omega (arith, on.below)) b.edge b.before b.time b.in_edge e.job v is in
          absurd (false≢true (sym (facts jobs is_table graph exact (suc k) on.below e on.step).outside ∙ ap (λ (s : SystemState). is_member e.job s.set.members) (sym b.target) ∙ r.member))

  step-job : (k : ℕ) (e : Edge) → IsStepBetween table (level_at table 1 k) (level_at table 1 (suc k)) e → e.job < length jobs
  step-job k e s = (OneWindow-from jobs s.source.set.members s.source.ends (first_core s.source) e.job e.window s.window).is_job

  have-jobs : (k : ℕ) → k < length jobs + 1 → HaveJobs table (level_at table 1 k).edges
  unfolding level_at next_level
  have-jobs zero below = All-nil (λ (e : Edge). e.job < length jobs)
  have-jobs (suc k) below =
      All-from_recursion (λ (e : Edge). e.job < length jobs) (level_at table 1 (suc k)).edges
      (recursion_weaker (IsStepBetween table (level_at table 1 k) (level_at table 1 (suc k))) (λ e. e.job < length jobs) (step-job k) (level_at table 1 (suc k)).edges (edges_are_steps (table_of jobs) 1 k))

  inside : (i : ℕ) → i < length (levels_to table 1 (length jobs)) → i < length jobs + 1
  inside i below = omega (arith, below, length-map-range_with_len (level_at table 1) 0 (length jobs + 1))

  before-at : (k level : ℕ) (e : Edge) (t : ℕ) → suc k ≡ level → IsOnWalk table graph level e t → IsBefore table graph k level e t
  before-at k level e t same on =
      subst (λ n. IsBefore table graph k n e t) same (edge_before k e t (subst (λ n. IsOnWalk table graph n e t) (sym same) on))

  pub walkable : IsWalkable (table_of jobs) (graph_of (table_of jobs) 1)
  walkable = record {
    jobs = λ k e t on. (facts jobs is_table graph exact k on.below e on.step).is_job;
    levels = ap length (levels-are table 1 (length jobs)) ∙ length-map-range_with_len (level_at table 1) 0 (length jobs + 1);
    before = before-at;
    have_jobs =
        subst (All (λ (l : Level). HaveJobs table l.edges)) (sym (levels-are table 1 (length jobs)))
        (All-from_get_or (λ (l : Level). HaveJobs table l.edges) (levels_to table 1 (length jobs)) no_level
        (λ i below. subst (λ (l : Level). HaveJobs table l.edges) (sym (get_or-map-range_with_len (level_at table 1) 0 (length jobs + 1) i i no_level (inside i below) (omega arith))) (have-jobs i (inside i below))));
    have_core = λ k states most same. All-from_recursion (λ (s : HeldState). 0 < length s.state.high) states (have-core (length jobs) k states (level_in graph k).states same (exact.fine k most));
    begins = λ j end k e below found. attains-on_walk jobs is_table each j below end k e found;
  }

pub walkable-of : EachJobHasEdge → (table : Table) (graph : AbstractionGraph) → IsTable table → table.edges ≡ [] → graph ≡ graph_of table 1 → IsWalkable table graph
walkable-of each table g is_table no_edges is =
    let same : table_of table.jobs ≡ table = λ i. record { jobs = table.jobs; edges = sym no_edges i } in
    let own : IsWalkable table (graph_of table 1) = subst (λ t. IsWalkable t (graph_of t 1)) same (walkable table.jobs (subst IsTable (sym same) is_table) each) in
    subst (IsWalkable table) (sym is) own

-- ---- the scenario

module _ (table : Table) (graph : AbstractionGraph) (j : ℕ) (end : End) where
  -- where the edge is found, the scenario has what the walk settles
  pub extreme-found : (k : ℕ) (e : Edge) → attaining_edge table graph j end ≡ Some (k, e) →
      overlaid table (latest_rows table) (walk_back table graph k e (end_of_span graph j end)) ≡ extreme table graph j end
  extreme-found k e found =
      overlaid-latest table (walk_back table graph k e (end_of_span graph j end))
      ∙ ap (λ o. scenario_with table (option_map_or (λ (f : ℕ × Edge). walk_back table graph f.0 f.1 (end_of_span graph j end)) o [])) (sym found)

  pub extreme-none : attaining_edge table graph j end ≡ None → latest_rows table ≡ extreme table graph j end
  extreme-none none =
      sym (overlaid-none table (latest_rows table) (length-map-range_with_len (λ i. ((job_at table i).rmax, (job_at table i).cmax)) 0 (length table.jobs)))
      ∙ overlaid-latest table []
      ∙ ap (λ o. scenario_with table (option_map_or (λ (f : ℕ × Edge). walk_back table graph f.0 f.1 (end_of_span graph j end)) o [])) (sym none)
