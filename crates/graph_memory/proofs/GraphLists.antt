-- The lists of a graph: its levels by their numbers, its edges, its spans, and how many there are.
use Rattle.std.proofs.Common.{◌≡◌, ℕ, zero, suc, ◌+◌, ◌<◌, ◌≤◌, List, [], ◌∷◌, ◌++◌, length, map, None, refl, sym, ap, ◌∙◌, arith, append-nil}
use Rattle.std.specs.Prelude.{flat_map, slice_index_or}
use Rattle.std.specs.List.{range_with_len}
use Rattle.std.proofs.lemmas.List.Concat.{flat_map-append}
use Rattle.std.proofs.lemmas.List.Sums.{sum_by_push}
use Rattle.std.proofs.lemmas.List.FromFn.{get_or-map-range_with_len, length-map-range_with_len, map-range_with_len_more}
use Rattle.job_model.specs.Table.{Table}
use Rattle.sag_graph.specs.Levels.{Level, level_at, next_level}
use Rattle.sag_graph.specs.Spans.{span_of, edges_up_to, spans_by}
use Rattle.sag_graph.specs.Graph.{graph_of, graph_up_to, levels_up_to}
use Rattle.sag_graph.specs.Budget.{edge_total, state_total}
use Rattle.graph_memory.specs.Held.{edges_in, level_in, states_in}
use Rattle.graph_builder.specs.Filling.{no_level}

-- levels 0 to k
abbrev pub levels_to : Table → ℕ → ℕ → List Level
levels_to table m k = map (level_at table m) (range_with_len 0 (k + 1))

pub levels-are : (table : Table) (m k : ℕ) → levels_up_to table m k ≡ levels_to table m k
levels-are table m zero = refl
levels-are table m (suc k) =
    ap (λ ls. ls ++ level_at table m (suc k) ∷ []) (levels-are table m k)
    ∙ sym (map-range_with_len_more (level_at table m) 0 (k + 1) (suc k) (number k))
    ∙ ap (λ n. map (level_at table m) (range_with_len 0 n)) (count k)
  where
    number : (k : ℕ) → 0 + (k + 1) ≡ suc k
    number k = omega arith

    count : (k : ℕ) → k + 1 + 1 ≡ suc k + 1
    count k = omega arith

pub edges-are : (table : Table) (m k : ℕ) → edges_up_to table m k ≡ flat_map (λ l. l.edges) (levels_up_to table m k)
unfolding level_at next_level edges_up_to
edges-are table m zero = refl
edges-are table m (suc k) =
    ap (λ es. es ++ (level_at table m (suc k)).edges) (edges-are table m k)
    ∙ ap (λ es. flat_map (λ l. l.edges) (levels_up_to table m k) ++ es) (sym (append-nil (level_at table m (suc k)).edges))
    ∙ sym (flat_map-append (λ (l : Level). l.edges) (levels_up_to table m k) (level_at table m (suc k) ∷ []))

pub levels-count : (table : Table) (m k : ℕ) → length (levels_up_to table m k) ≡ k + 1
levels-count table m k = ap length (levels-are table m k) ∙ length-map-range_with_len (level_at table m) 0 (k + 1)

-- level i of the graph up to level k
pub level-at : (table : Table) (m k i : ℕ) → i ≤ k → level_in (graph_up_to table m k) i ≡ level_at table m i
level-at table m k i most =
    ap (λ ls. slice_index_or ls i no_level) (levels-are table m k)
    ∙ get_or-map-range_with_len (level_at table m) 0 (k + 1) i i no_level (omega (arith, most)) (omega arith)

pub level-is : (table : Table) (m k : ℕ) → k ≤ length table.jobs → level_in (graph_of table m) k ≡ level_at table m k
level-is table m k most = level-at table m (length table.jobs) k most

pub spans-count : (table : Table) (m k : ℕ) → length (graph_up_to table m k).spans ≡ length table.jobs
unfolding spans_by
spans-count table m k = length-map-range_with_len (span_of table (edges_up_to table m k)) 0 (length table.jobs)

pub spans-length : (table : Table) (m : ℕ) → length (graph_of table m).spans ≡ length table.jobs
spans-length table m = spans-count table m (length table.jobs)

-- the span of job j in the graph up to level k
pub span-at : (table : Table) (m k j : ℕ) → j < length table.jobs →
    slice_index_or (graph_up_to table m k).spans j None ≡ span_of table (flat_map (λ l. l.edges) (levels_up_to table m k)) j
unfolding spans_by
span-at table m k j below =
    get_or-map-range_with_len (span_of table (edges_up_to table m k)) 0 (length table.jobs) j j None below (omega arith)
    ∙ ap (λ es. span_of table es j) (edges-are table m k)

pub span-is : (table : Table) (m j : ℕ) → j < length table.jobs →
    slice_index_or (graph_of table m).spans j None ≡ span_of table (flat_map (λ l. l.edges) (levels_to table m (length table.jobs))) j
span-is table m j below = span-at table m (length table.jobs) j below ∙ ap (λ ls. span_of table (flat_map (λ l. l.edges) ls) j) (levels-are table m (length table.jobs))

-- ---- how many there are

pub states-count : (table : Table) (m k : ℕ) → states_in (graph_up_to table m k) ≡ state_total table m k
unfolding state_total level_at
states-count table m zero = refl
states-count table m (suc k) =
    sum_by_push (λ (l : Level). length l.states) (levels_up_to table m k) (level_at table m (suc k))
    ∙ ap (λ n. n + length (level_at table m (suc k)).states) (states-count table m k)

pub edges-count : (table : Table) (m k : ℕ) → edges_in (graph_up_to table m k) ≡ edge_total table m k
unfolding edge_total level_at
edges-count table m zero = refl
edges-count table m (suc k) =
    sum_by_push (λ (l : Level). length l.edges) (levels_up_to table m k) (level_at table m (suc k))
    ∙ ap (λ n. n + length (level_at table m (suc k)).edges) (edges-count table m k)
