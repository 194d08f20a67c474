-- The graph of a table up to a level keeps what each graph in memory keeps.
use Rattle.std.proofs.Common.{◌≡◌, ℕ, zero, suc, ◌+◌, ◌*◌, ◌<◌, ◌≤◌, Bool, true, false, cond, List, [], ◌∷◌, length, map, filter, fold, max, refl, sym, ap, ◌∙◌, subst, arith}
use Rattle.std.specs.Prelude.{Option, Some, None, flat_map, find, slice_index_or, is_some, IsSome, ◌==◌, ◌||◌}
use Rattle.std.specs.List.{AllByRecursion, list_any}
use Rattle.lists.specs.Numbers.{numbers_below}
use Rattle.lists.proofs.Elements.{all-append, each_at, recursion_weaker}
use Rattle.job_model.specs.declared.limits.TheConstants.{MOST_CORES, MOST_COST}
use Rattle.job_model.specs.Table.{Table, IsTable, job_at}
use Rattle.sag_time.specs.Interval.{Interval, hull}
use Rattle.start_windows.proofs.WindowFacts.{IsWindow-from}
use Rattle.sag_step.specs.State.{first_core}
use Rattle.sag_step.proofs.NextStates.{HasRoom-from}
use Rattle.cert_text.specs.Grammar.{most_number}
use Rattle.sag_graph.specs.declared.TheConstants.{MOST_BUDGET}
use Rattle.sag_graph.specs.declared.edge.Edge.{Edge}
use Rattle.sag_graph.specs.Levels.{Level, level_at, next_level}
use Rattle.sag_graph.specs.Spans.{edge_finish, edges_up_to, hull_with, span_of, spans_by}
use Rattle.sag_graph.specs.Graph.{AbstractionGraph, graph_up_to, levels_up_to}
use Rattle.sag_graph.specs.Budget.{edge_total, state_total}
use Rattle.graph_valid.specs.Laws.{EachStateHasEdge}
use Rattle.graph_builder.specs.Fit.{most_at}
use Rattle.graph_builder.specs.Laws.{IsStateUpTo, LevelsAreFit}
use Rattle.graph_builder.specs.Writing.{IsSpanUpTo, IsTimed, IsWritable}
use Rattle.graph_builder.proofs.FitLemmas.{arrival-most, most-few}
use Rattle.graph_builder.proofs.WritableLemmas.{writable}
use Rattle.graph_memory.specs.Held.{AddsJob, EdgesAreSteps, FitsLines, GraphsAreHeld, IsHeldGraph, IsStepBetween, has_edge_of, level_in}
use Rattle.graph_memory.proofs.GraphLists.{edges-count, level-at, levels-count, span-at, spans-count, states-count}

-- ---- hulls

-- a hull stays one
some-stays : (a : Interval) (xs : List Interval) → is_some (fold hull_with (Some a) xs) ≡ true
some-stays a [] = refl
some-stays a (x ∷ xs) = some-stays (hull a x) xs

-- there is a hull where some edge passes
some-passes : (finish : Edge → Interval) (p : Edge → Bool) (es : List Edge) → is_some (fold hull_with None (map finish (filter p es))) ≡ list_any p es
some-passes finish p [] = refl
some-passes finish p (e ∷ es) = by (p e) (some-passes finish p es)
  where
    by : (b : Bool) → is_some (fold hull_with None (map finish (filter p es))) ≡ list_any p es →
        is_some (fold hull_with None (map finish (cond b (e ∷ filter p es) (filter p es)))) ≡ (b || list_any p es)
    by true rest = some-stays (finish e) (map finish (filter p es))
    by false rest = rest

-- a hull ends by a limit of all
hull-up : (limit : ℕ) (xs : List Interval) (so_far : Option Interval) → IsSpanUpTo limit so_far → AllByRecursion (λ (x : Interval). x.hi ≤ limit) xs → IsSpanUpTo limit (fold hull_with so_far xs)
hull-up limit [] so_far one all = one
hull-up limit (x ∷ xs) None one all = hull-up limit xs (Some x) all.0 all.1
hull-up limit (x ∷ xs) (Some a) one all = hull-up limit xs (Some (hull a x)) (both a.hi x.hi one all.0) all.1
  where
    both : (m n : ℕ) → m ≤ limit → n ≤ limit → max m n ≤ limit
    both m n first second = omega (arith, first, second)

finishes-up : (limit : ℕ) (finish : Edge → Interval) (p : Edge → Bool) (es : List Edge) → AllByRecursion (λ (e : Edge). (finish e).hi ≤ limit) es →
    AllByRecursion (λ (x : Interval). x.hi ≤ limit) (map finish (filter p es))
finishes-up limit finish p [] all = tt
finishes-up limit finish p (e ∷ es) all = by (p e) (finishes-up limit finish p es all.1)
  where
    by : (b : Bool) → AllByRecursion (λ (x : Interval). x.hi ≤ limit) (map finish (filter p es)) → AllByRecursion (λ (x : Interval). x.hi ≤ limit) (map finish (cond b (e ∷ filter p es) (filter p es)))
    by true rest = (all.0, rest)
    by false rest = rest

each-map : (P : Option Interval → Type 0) (f : ℕ → Option Interval) → ((j : ℕ) → P (f j)) → (js : List ℕ) → AllByRecursion P (map f js)
each-map P f each [] = tt
each-map P f each (j ∷ js) = (each j, each-map P f each js)

-- ---- one edge

adds-job : (table : Table) (before after : Level) (e : Edge) → IsStepBetween table before after e → AddsJob (length table.jobs) before after e
adds-job table before after e step =
    let found = IsWindow-from table step.source.set.members step.source.ends (first_core step.source) e.job e.window step.window in
    record { of_job = found.is_job; source = step.source; target = step.target; from_there = step.from_there; to_there = step.to_there; adds = step.adds }

module _ (table : Table) (m : ℕ) (is_table : IsTable table) (some : 1 ≤ m) (few : m ≤ MOST_CORES) (steps : EdgesAreSteps) (fit : LevelsAreFit) where
  most-number : (k : ℕ) → k ≤ length table.jobs → most_at k ≤ most_number
  most-number k most = let few_jobs = is_table.few_jobs in most-few k (omega (arith, most, few_jobs))

  -- its window is in order, and its job finishes by a number of the grammar
  record IsInTime (e : Edge) : Type 0 where
    in_order : e.window.est ≤ e.window.lst
    latest : e.window.lst + (job_at table e.job).cmax ≤ most_number

  in_time : (k : ℕ) → suc k ≤ length table.jobs → (e : Edge) → IsStepBetween table (level_at table m k) (level_at table m (suc k)) e → IsInTime e
  in_time k most e step =
      let source = each_at (IsStateUpTo table m (most_at k)) (level_at table m k).states e.from step.source (fit table m k is_table some) step.from_there in
      let room = HasRoom-from table step.source e.job e.window (most_at k) is_table source.in_limit (arrival-most k) step.window in
      let top : most_at k + MOST_COST ≡ most_at (suc k) = omega arith in
      record { in_order = room.order; latest = omega (arith, room.latest, top, most-number (suc k) most) }

  edges-in_time : (k : ℕ) → k ≤ length table.jobs → AllByRecursion IsInTime (level_at table m k).edges
  unfolding level_at next_level
  edges-in_time zero most = tt
  edges-in_time (suc k) most =
      recursion_weaker (IsStepBetween table (level_at table m k) (level_at table m (suc k))) IsInTime (in_time k most) (level_at table m (suc k)).edges (steps table m k)

  all-in_time : (k : ℕ) → k ≤ length table.jobs → AllByRecursion IsInTime (edges_up_to table m k)
  unfolding edges_up_to
  all-in_time zero most = tt
  all-in_time (suc k) most = all-append IsInTime (edges_up_to table m k) (level_at table m (suc k)).edges (all-in_time k (omega (arith, most))) (edges-in_time (suc k) most)

  -- ---- levels

  fits-lines : (k : ℕ) → k ≤ length table.jobs → FitsLines (level_at table m k)
  fits-lines k most = record {
    states = recursion_weaker (IsStateUpTo table m (most_at k)) IsWritable (λ s is. writable table m is_table few (most_at k) (most-number k most) s is.is_state is.in_limit) (level_at table m k).states (fit table m k is_table some);
    edges = recursion_weaker IsInTime IsTimed (λ e is. record { in_order = is.in_order; fits = omega (arith, is.latest) }) (level_at table m k).edges (edges-in_time k most);
  }

  -- ---- spans

  ends-up : (k : ℕ) → k ≤ length table.jobs → AllByRecursion (IsSpanUpTo most_number) (graph_up_to table m k).spans
  unfolding spans_by
  ends-up k most = each-map (IsSpanUpTo most_number) (span_of table (edges_up_to table m k)) own (numbers_below (length table.jobs))
    where
      own : (j : ℕ) → IsSpanUpTo most_number (span_of table (edges_up_to table m k) j)
      own j =
          hull-up most_number (map (edge_finish table) (filter (λ (e : Edge). e.job == j) (edges_up_to table m k))) None tt
          (finishes-up most_number (edge_finish table) (λ (e : Edge). e.job == j) (edges_up_to table m k)
          (recursion_weaker IsInTime (λ (e : Edge). (edge_finish table e).hi ≤ most_number) (λ e is. is.latest) (edges_up_to table m k) (all-in_time k most)))

  has-span : (k j : ℕ) → j < length table.jobs → is_some (slice_index_or (graph_up_to table m k).spans j None) ≡ has_edge_of (graph_up_to table m k) j
  has-span k j below =
      ap is_some (span-at table m k j below)
      ∙ some-passes (edge_finish table) (λ (e : Edge). e.job == j) (flat_map (λ (l : Level). l.edges) (levels_up_to table m k))

  -- ---- the graph up to level k

  module _ (entered : EachStateHasEdge) (k : ℕ) (most : k ≤ length table.jobs) where
    abbrev g : AbstractionGraph
    g = graph_up_to table m k

    within : (i : ℕ) → i < length (levels_up_to table m k) → i ≤ k
    within i below = omega (arith, below, levels-count table m k)

    no-edges : (level_in g 0).edges ≡ []
    unfolding level_at
    no-edges = ap (λ (l : Level). l.edges) (level-at table m k 0 (omega arith))

    steps-at : (i : ℕ) → suc i < length (levels_up_to table m k) → AllByRecursion (AddsJob (length table.jobs) (level_in g i) (level_in g (suc i))) (level_in g (suc i)).edges
    steps-at i below =
        let top = within (suc i) below in
        subst (λ (l : Level). AllByRecursion (AddsJob (length table.jobs) (level_in g i) l) l.edges) (sym (level-at table m k (suc i) top))
        (subst (λ (l : Level). AllByRecursion (AddsJob (length table.jobs) l (level_at table m (suc i))) (level_at table m (suc i)).edges) (sym (level-at table m k i (omega (arith, top))))
        (recursion_weaker (IsStepBetween table (level_at table m i) (level_at table m (suc i))) (AddsJob (length table.jobs) (level_at table m i) (level_at table m (suc i)))
        (adds-job table (level_at table m i) (level_at table m (suc i))) (level_at table m (suc i)).edges (steps table m i)))

    entered-at : (i to : ℕ) → suc i < length (levels_up_to table m k) → to < length (level_in g (suc i)).states → IsSome (find (λ (e : Edge). e.to == to) (level_in g (suc i)).edges)
    entered-at i to below there =
        let same = level-at table m k (suc i) (within (suc i) below) in
        subst (λ (l : Level). IsSome (find (λ (e : Edge). e.to == to) l.edges)) (sym same)
        (entered table m i to (subst (λ (l : Level). to < length l.states) same there))

    pub held : state_total table m k ≤ MOST_BUDGET → edge_total table m k ≤ 16 * MOST_BUDGET → IsHeldGraph (graph_up_to table m k)
    held states edges = record {
      some_core = some;
      few_cores = few;
      few_jobs = omega (arith, spans-count table m k, is_table.few_jobs);
      some_level = omega (arith, levels-count table m k);
      few_levels = omega (arith, levels-count table m k, spans-count table m k, most);
      few_states = omega (arith, states-count table m k, states);
      few_edges = omega (arith, edges-count table m k, edges);
      begins = no-edges;
      steps = λ i below. subst (λ n. AllByRecursion (AddsJob n (level_in g i) (level_in g (suc i))) (level_in g (suc i)).edges) (sym (spans-count table m k)) (steps-at i below);
      entered = entered-at;
      spans = λ j below.
          let same = has-span k j (omega (arith, below, spans-count table m k)) in
          (λ some. sym same ∙ some, λ some. same ∙ some);
      lines = λ i below. let top = within i below in subst FitsLines (sym (level-at table m k i top)) (fits-lines i (omega (arith, top, most)));
      ends = ends-up k most;
    }

pub graphs_are_held : EdgesAreSteps → EachStateHasEdge → LevelsAreFit → GraphsAreHeld
graphs_are_held steps entered fit table m k is_table some few most states edges = held table m is_table some few steps fit entered k most states edges
