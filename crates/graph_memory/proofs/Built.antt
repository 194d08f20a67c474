-- What is built so far, a level at a time.
use Rattle.std.proofs.Common.{◌≡◌, ℕ, suc, ◌+◌, ◌<◌, ◌≤◌, Bool, List, [], ◌∷◌, ◌++◌, length, Option, None, refl, sym, ap, ◌∙◌, subst, arith, add-one}
use Rattle.std.specs.Prelude.{◌↔◌, IsTrue, if◌then◌else◌}
use Rattle.job_model.specs.Table.{Table, IsTable}
use Rattle.sag_time.specs.Interval.{Interval}
use Rattle.sag_graph.specs.declared.TheConstants.{MOST_BUDGET}
use Rattle.sag_graph.specs.Levels.{Level, level_at}
use Rattle.sag_graph.specs.Graph.{AbstractionGraph, graph_of, graph_up_to, levels_up_to}
use Rattle.sag_graph.specs.Budget.{edge_total, spent, state_total}
use Rattle.graph_builder.specs.declared.fault.LevelFault.TheVariants as fault
use Rattle.graph_builder.specs.Laws.{WholeGraphIsWithin}
use Rattle.graph_builder.specs.Standing.{IsSpentAfter, IsStanding, Standing, builder_at}
use Rattle.graph_memory.specs.declared.building.BuildAnswer.TheVariants as answer
use Rattle.graph_memory.specs.Building.{HasBuilt, IsSpentBuild}
use Rattle.graph_memory.specs.Held.{GraphsAreHeld, IsHeldGraph, edges_in, states_in}
use Rattle.graph_memory.proofs.GraphLists.{edges-count, spans-count, states-count}

-- the level at which a builder stands
abbrev pub top_of : Standing → Level
top_of s = record { states = s.states; edges = s.edges }

-- the graph of these levels and spans
abbrev pub graph_with : ℕ → List Level → List (Option Interval) → AbstractionGraph
graph_with m levels spans = record { cores = m; levels = levels; spans = spans }

-- at level k, with these levels
built-at : (table : Table) (m budget k : ℕ) (levels : List Level) → levels ≡ levels_up_to table m k → budget ≤ MOST_BUDGET → HasBuilt table m (builder_at table m budget k) levels
built-at table m budget k levels kept few = record { stands = refl; kept = kept; few = few }

pub first-built : (table : Table) (m budget : ℕ) (b : Standing) (levels : List Level) → b ≡ builder_at table m budget 0 → budget ≤ MOST_BUDGET → levels ≡ [] ++ top_of b ∷ [] → HasBuilt table m b levels
first-built table m budget b levels is few kept =
    subst (λ (s : Standing). HasBuilt table m s levels) (sym is)
    (built-at table m budget 0 levels (kept ∙ ap (λ (s : Standing). top_of s ∷ []) is) few)

module _ (table : Table) (m : ℕ) (b : Standing) (levels : List Level) (built : HasBuilt table m b levels) where
  table-is : b.table ≡ table
  table-is = ap (λ (s : Standing). s.table) built.stands

  cores-are : b.cores ≡ m
  cores-are = ap (λ (s : Standing). s.cores) built.stands

  next-built : (b' : Standing) (levels' : List Level) → b' ≡ builder_at b.table b.cores b.budget (b.level + 1) → levels' ≡ levels ++ top_of b' ∷ [] → HasBuilt table m b' levels'
  next-built b' levels' up kept =
      let is : b' ≡ builder_at table m b.budget (b.level + 1) =
      up ∙ ap (λ t. builder_at t b.cores b.budget (b.level + 1)) table-is ∙ ap (λ n. builder_at table n b.budget (b.level + 1)) cores-are in
      let all : levels' ≡ levels_up_to table m (b.level + 1) =
      kept ∙ ap (λ ls. ls ++ top_of b' ∷ []) built.kept ∙ ap (λ (s : Standing). levels_up_to table m b.level ++ top_of s ∷ []) is
      ∙ ap (λ n. levels_up_to table m b.level ++ level_at table m n ∷ []) (add-one b.level) ∙ sym (ap (levels_up_to table m) (add-one b.level)) in
      subst (λ (s : Standing). HasBuilt table m s levels') (sym is) (built-at table m b.budget (b.level + 1) levels' all built.few)

  -- one level more, where the builder says that it went on, as it does below the last level
  pub goes-up : (went : Bool) (b' : Standing) (levels' : List Level) (counter : ℕ) →
      b' ≡ (if went then builder_at b.table b.cores b.budget (b.level + 1) else b) → (IsTrue went ↔ (b.level < length b.table.jobs)) →
      b.level ≡ counter → counter < length table.jobs → levels' ≡ levels ++ top_of b' ∷ [] →
      HasBuilt table m b' levels' × (b'.level ≡ counter + 1) × (b'.budget ≡ b.budget)
  goes-up went b' levels' counter up last at below kept =
      let here : b.level < length table.jobs = subst (λ n. n < length table.jobs) (sym at) below in
      let there : b.level < length b.table.jobs = subst (λ (t : Table). b.level < length t.jobs) (sym table-is) here in
      let is : b' ≡ builder_at b.table b.cores b.budget (b.level + 1) =
      up ∙ ap (λ (w : Bool). if w then builder_at b.table b.cores b.budget (b.level + 1) else b) (last.1 there) in
      (next-built b' levels' is kept, ap (λ (s : Standing). s.level) is ∙ ap (λ n. n + 1) at, ap (λ (s : Standing). s.budget) is)

  pub spans-long : length b.spans ≡ length table.jobs
  spans-long = ap (λ (s : Standing). length s.spans) built.stands ∙ spans-count table m b.level

  pub graph-is : (spans : List (Option Interval)) → spans ≡ b.spans →
      graph_with m levels spans ≡ graph_up_to table m b.level
  graph-is spans same = λ i. record { cores = m; levels = built.kept i; spans = (same ∙ ap (λ (s : Standing). s.spans) built.stands) i }

  module _ (stands : IsStanding b) where
    is_table : IsTable table
    is_table = subst IsTable table-is stands.is_table

    in_table : b.level ≤ length table.jobs
    in_table = subst (λ (t : Table). b.level ≤ length t.jobs) table-is stands.is_level

    states-are : b.state_total ≡ state_total table m b.level
    states-are = ap (λ (s : Standing). s.state_total) built.stands

    edges-are : b.edge_total ≡ edge_total table m b.level
    edges-are = ap (λ (s : Standing). s.edge_total) built.stands

    pub graph-held : GraphsAreHeld → (spans : List (Option Interval)) → spans ≡ b.spans → IsHeldGraph (graph_with m levels spans)
    graph-held held spans same =
        subst IsHeldGraph (sym (graph-is spans same))
        (held table m b.level is_table (omega (arith, stands.some_core, cores-are)) (omega (arith, stands.few_cores, cores-are)) in_table
        (omega (arith, states-are, stands.few_states, built.few)) (omega (arith, edges-are, stands.few_edges, built.few)))

    pub states-told : (spans : List (Option Interval)) (total : ℕ) → spans ≡ b.spans → total ≡ b.state_total → total ≡ states_in (graph_with m levels spans)
    states-told spans total same is = is ∙ states-are ∙ sym (states-count table m b.level) ∙ sym (ap states_in (graph-is spans same))

    pub edges-told : (spans : List (Option Interval)) (total : ℕ) → spans ≡ b.spans → total ≡ b.edge_total → total ≡ edges_in (graph_with m levels spans)
    edges-told spans total same is = is ∙ edges-are ∙ sym (edges-count table m b.level) ∙ sym (ap edges_in (graph-is spans same))

    -- at the last level the graph is whole
    pub whole-is : (graph : AbstractionGraph) (n : ℕ) → graph ≡ graph_up_to table m b.level → b.level ≡ n → n ≡ length table.jobs → graph ≡ graph_of table m
    whole-is graph n is level count = is ∙ ap (graph_up_to table m) (level ∙ count)

    pub whole-within : WholeGraphIsWithin → (n : ℕ) → b.level ≡ n → n ≡ length table.jobs → spent table m b.budget ≡ None
    whole-within whole n level count =
        sym (ap (λ t. spent t m b.budget) table-is) ∙ sym (ap (λ k. spent b.table k b.budget) cores-are)
        ∙ whole b stands (level ∙ count ∙ sym (ap (λ (t : Table). length t.jobs) table-is))

  pub spent-build : (graph : AbstractionGraph) (level states edges : ℕ) → graph ≡ graph_up_to table m b.level → IsSpentAfter b (fault.Spent level states edges) →
      IsSpentBuild table m b.budget (answer.Spent graph level states edges)
  spent-build graph level states edges is after =
      let at : level ≡ suc b.level = after.0 ∙ add-one b.level in (
        sym (ap (λ t. spent t m b.budget) table-is) ∙ sym (ap (λ k. spent b.table k b.budget) cores-are) ∙ after.1,
        (b.level, at, is),
      )
