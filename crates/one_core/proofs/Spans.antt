-- Each end of a job's span is that of an edge.
use Rattle.std.proofs.Common.{◌≡◌, ℕ, zero, suc, ◌+◌, ◌-◌, ◌<◌, ◌≤◌, ◌⊎◌, inl, inr, Bool, true, List, [], ◌∷◌, length, map, Option, Some, None, refl, sym, ap, ◌∙◌, subst, arith, ⊎_elim}
use Rattle.std.specs.Prelude.{fold, filter, flat_map, is_some, slice_index_or, ◌==◌, ◌&&◌}
use Rattle.std.specs.List.{AllByRecursion, list_any, enumerate_from, range_with_len}
use Rattle.std.specs.Option.{option_map_or}
use Rattle.std.proofs.lemmas.Bool.{and_parts, eqb-true, eq-eqb, or_left, or_right, cases_lt, false≢true}
use Rattle.std.proofs.lemmas.Option.{none-some, same_Some}
use Rattle.job_model.specs.declared.job_row.Job.{Job}
use Rattle.job_model.specs.Table.{Table, IsTable, table_of}
use Rattle.sag_time.specs.Interval.{Interval, hull}
use Rattle.graph_valid.specs.Laws.{EachJobHasEdge}
use Rattle.sag_graph.specs.declared.edge.Edge.{Edge}
use Rattle.sag_graph.specs.Levels.{Level, level_at, next_level}
use Rattle.sag_graph.specs.Spans.{edge_finish, hull_with, span_of}
use Rattle.sag_graph.specs.Graph.{graph_of}
use Rattle.job_model.specs.declared.interval_end.End.{End}
use Rattle.job_model.specs.declared.interval_end.End.TheVariants.{Best, Worst}
use Rattle.one_core.specs.Extreme.{own_end, numbered_edges, end_of_span, attaining_edge}
use Rattle.lists.proofs.Elements.{all-append, recursion_weaker}
use Rattle.one_core.proofs.Lists.{found_where, any-append_left, any-append_right, any-append_cases, any-map, any-filter}
use Rattle.graph_memory.specs.Held.{IsStepBetween}
use Rattle.graph_memory.proofs.OfferSteps.{edges_are_steps}
use Rattle.graph_memory.proofs.GraphLists.{levels_to, levels-are, edges-are, span-is}

-- ---- hulls

-- an end of the hull of two is that of one
one_of : (end : End) (a b : Interval) → (own_end end a ≡ own_end end (hull a b)) ⊎ (own_end end b ≡ own_end end (hull a b))
one_of Best a b = ⊎_elim (λ (less : a.lo < b.lo). inl (omega (arith, less))) (λ (more : b.lo ≤ a.lo). inr (omega (arith, more))) (cases_lt a.lo b.lo)
one_of Worst a b = ⊎_elim (λ (less : a.hi < b.hi). inr (omega (arith, less))) (λ (more : b.hi ≤ a.hi). inl (omega (arith, more))) (cases_lt a.hi b.hi)

-- Each end of a hull is that of one of the intervals, or of the hull so far.
hull-attained : (end : End) (acc : Option Interval) (xs : List Interval) (h : Interval) → fold hull_with acc xs ≡ Some h →
    ((a : Interval) × (acc ≡ Some a) × (own_end end a ≡ own_end end h)) ⊎ (list_any (λ a. own_end end a == own_end end h) xs ≡ true)
hull-attained end acc [] h e = inl (h, e, refl)
hull-attained end None (x ∷ xs) h e = ⊎_elim
    (λ (before : (a : Interval) × (Some x ≡ Some a) × (own_end end a ≡ own_end end h)).
    inr (or_left (own_end end x == own_end end h) (list_any (λ b. own_end end b == own_end end h) xs)
    (eq-eqb (own_end end x) (own_end end h) (ap (own_end end) (same_Some x before.0 before.1) ∙ before.2))))
    (λ (later : list_any (λ b. own_end end b == own_end end h) xs ≡ true). inr (or_right (own_end end x == own_end end h) (list_any (λ b. own_end end b == own_end end h) xs) later))
    (hull-attained end (Some x) xs h e)
hull-attained end (Some g) (x ∷ xs) h e = ⊎_elim
    (λ (before : (a : Interval) × (Some (hull g x) ≡ Some a) × (own_end end a ≡ own_end end h)).
    let whole : own_end end (hull g x) ≡ own_end end h = ap (own_end end) (same_Some (hull g x) before.0 before.1) ∙ before.2 in
    ⊎_elim
    (λ (old : own_end end g ≡ own_end end (hull g x)). inl (g, refl, old ∙ whole))
    (λ (own : own_end end x ≡ own_end end (hull g x)).
    inr (or_left (own_end end x == own_end end h) (list_any (λ b. own_end end b == own_end end h) xs) (eq-eqb (own_end end x) (own_end end h) (own ∙ whole))))
    (one_of end g x))
    (λ (later : list_any (λ b. own_end end b == own_end end h) xs ≡ true). inr (or_right (own_end end x == own_end end h) (list_any (λ b. own_end end b == own_end end h) xs) later))
    (hull-attained end (Some (hull g x)) xs h e)

-- ---- the edges of a job

record HasHull (acc : Option Interval) (xs : List Interval) : Type 0 where
  span : Interval
  is : fold hull_with acc xs ≡ Some span

some-hull : (xs : List Interval) (o : Option Interval) → fold hull_with None xs ≡ o → is_some o ≡ true → HasHull None xs
some-hull xs None is some = absurd (false≢true some)
some-hull xs (Some span) is some = record { span = span; is = is }

-- the same edges, with numbers
any-numbered : (q : Edge → Bool) (k : ℕ) (levels : List Level) → list_any q (flat_map (λ l. l.edges) levels) ≡ true →
    list_any (λ (e : ℕ × Edge). q e.1) (flat_map (λ l. map (λ e. (l.0 - 1, e)) l.1.edges) (enumerate_from k levels)) ≡ true
any-numbered q k [] some = some
any-numbered q k (l ∷ ls) some =
    let here : List (ℕ × Edge) = map (λ e. (k - 1, e)) l.edges in
    let rest : List (ℕ × Edge) = flat_map (λ m. map (λ e. (m.0 - 1, e)) m.1.edges) (enumerate_from (k + 1) ls) in
    ⊎_elim
    (λ (own : list_any q l.edges ≡ true). any-append_left (λ (e : ℕ × Edge). q e.1) here rest (any-map (λ e. (k - 1, e)) (λ (e : ℕ × Edge). q e.1) l.edges ∙ own))
    (λ (later : list_any q (flat_map (λ m. m.edges) ls) ≡ true). any-append_right (λ (e : ℕ × Edge). q e.1) here rest (any-numbered q (k + 1) ls later))
    (any-append_cases q l.edges (flat_map (λ m. m.edges) ls) some)

all-map : {X Y : Type 0} (P : Y → Type 0) (f : X → Y) (xs : List X) → AllByRecursion (λ x. P (f x)) xs → AllByRecursion P (map f xs)
all-map P f [] all = tt
all-map P f (x ∷ xs) all = (all.0, all-map P f xs all.1)

module _ (jobs : List Job) (is_table : IsTable (table_of jobs)) (each : EachJobHasEdge) where
  abbrev table : Table
  table = table_of jobs

  abbrev n : ℕ
  n = length jobs

  all_levels : List Level
  all_levels = levels_to table 1 n

  has_hull : (j : ℕ) → j < n → HasHull None (map (edge_finish table) (filter (λ e. e.job == j) (flat_map (λ l. l.edges) (levels_to table 1 n))))
  has_hull j below =
      let edges : List Edge = flat_map (λ l. l.edges) (levels_to table 1 n) in
      some-hull (map (edge_finish table) (filter (λ e. e.job == j) edges)) (span_of table edges j) refl
      (subst (λ es. is_some (span_of table es j) ≡ true) (edges-are table 1 n ∙ ap (flat_map (λ l. l.edges)) (levels-are table 1 n)) (each table 1 j is_table (omega arith) below))

  pub has_span : (j : ℕ) → j < n → is_some (slice_index_or (graph_of table 1).spans j None) ≡ true
  has_span j below = ap is_some (span-is table 1 j below ∙ (has_hull j below).is)

  -- a numbered edge is a step from its level
  pub record IsNumbered (e : ℕ × Edge) : Type 0 where
    pub below : e.0 < n
    pub step : IsStepBetween (table_of jobs) (level_at table 1 e.0) (level_at table 1 (suc e.0)) e.1

  numbered-are : (a count : ℕ) → a + count ≤ n + 1 →
      AllByRecursion IsNumbered (flat_map (λ l. map (λ e. (l.0 - 1, e)) l.1.edges) (enumerate_from a (map (level_at table 1) (range_with_len a count))))
  unfolding level_at next_level
  numbered-are a zero few = tt
  numbered-are a (suc count) few =
      all-append IsNumbered (map (λ e. (a - 1, e)) (level_at table 1 a).edges)
      (flat_map (λ l. map (λ e. (l.0 - 1, e)) l.1.edges) (enumerate_from (a + 1) (map (level_at table 1) (range_with_len (a + 1) count))))
      (own a (omega (arith, few))) (numbered-are (a + 1) count (omega (arith, few)))
    where
      number : (k : ℕ) → suc k - 1 ≡ k
      number k = omega arith

      own : (a : ℕ) → a ≤ n → AllByRecursion IsNumbered (map (λ e. (a - 1, e)) (level_at table 1 a).edges)
      own zero most = tt
      own (suc k) most =
          let one : (e : Edge) → IsStepBetween (table_of jobs) (level_at table 1 k) (level_at table 1 (suc k)) e → IsNumbered (suc k - 1, e) =
          λ e step. subst (λ i. IsNumbered (i, e)) (sym (number k)) (record { below = omega (arith, most); step = step }) in
          all-map IsNumbered (λ e. (suc k - 1, e)) (level_at table 1 (suc k)).edges
          (recursion_weaker (IsStepBetween (table_of jobs) (level_at table 1 k) (level_at table 1 (suc k))) (λ e. IsNumbered (suc k - 1, e)) one (level_at table 1 (suc k)).edges (edges_are_steps (table_of jobs) 1 k))

  module _ (j : ℕ) (below : j < n) (end : End) where
    abbrev goal_end : ℕ
    goal_end = end_of_span (graph_of table 1) j end

    -- the first edge with that end of the span
    pub record Attaining : Type 0 where
      pub level : ℕ
      pub edge : Edge
      pub found : attaining_edge table (graph_of table 1) j end ≡ Some (level, edge)
      pub is_job : edge.job ≡ j
      pub end_is : own_end end (edge_finish table edge) ≡ goal_end
      pub is : IsNumbered (level, edge)

    pub attaining : Attaining
    attaining =
        let h = has_hull j below in
        let end_is : goal_end ≡ own_end end h.span = ap (λ o. option_map_or (own_end end) o 0) (span-is table 1 j below ∙ h.is) in
        let attained : list_any (λ a. own_end end a == own_end end h.span) (map (edge_finish table) (filter (λ e. e.job == j) (flat_map (λ l. l.edges) (levels_to table 1 n)))) ≡ true =
        ⊎_elim
        (λ (before : (a : Interval) × (None ≡ Some a) × (own_end end a ≡ own_end end h.span)). absurd (none-some before.0 before.1))
        (λ (some : list_any (λ a. own_end end a == own_end end h.span) (map (edge_finish table) (filter (λ e. e.job == j) (flat_map (λ l. l.edges) (levels_to table 1 n)))) ≡ true). some)
        (hull-attained end None (map (edge_finish table) (filter (λ e. e.job == j) (flat_map (λ l. l.edges) (levels_to table 1 n)))) h.span h.is) in
        let by_edges : list_any (λ e. own_end end (edge_finish table e) == own_end end h.span) (filter (λ e. e.job == j) (flat_map (λ l. l.edges) (levels_to table 1 n))) ≡ true =
        sym (any-map (edge_finish table) (λ a. own_end end a == own_end end h.span) (filter (λ e. e.job == j) (flat_map (λ l. l.edges) (levels_to table 1 n)))) ∙ attained in
        let among = any-filter (λ e. e.job == j) (λ e. own_end end (edge_finish table e) == own_end end h.span) (flat_map (λ l. l.edges) (levels_to table 1 n)) by_edges in
        let at_goal : list_any (λ e. (e.job == j) && (own_end end (edge_finish table e) == goal_end)) (flat_map (λ l. l.edges) (levels_to table 1 n)) ≡ true =
        subst (λ t. list_any (λ e. (e.job == j) && (own_end end (edge_finish table e) == t)) (flat_map (λ l. l.edges) (levels_to table 1 n)) ≡ true) (sym end_is) among in
        let levels_same : flat_map (λ l. map (λ e. (l.0 - 1, e)) l.1.edges) (enumerate_from 0 (levels_to table 1 n)) ≡ numbered_edges (graph_of table 1) =
        ap (λ ls. flat_map (λ l. map (λ e. (l.0 - 1, e)) l.1.edges) (enumerate_from 0 ls)) (sym (levels-are table 1 n)) in
        let f = found_where IsNumbered (λ e. (e.1.job == j) && (own_end end (edge_finish table e.1) == goal_end)) (numbered_edges (graph_of table 1))
        (subst (λ es. list_any (λ e. (e.1.job == j) && (own_end end (edge_finish table e.1) == goal_end)) es ≡ true) levels_same
        (any-numbered (λ e. (e.job == j) && (own_end end (edge_finish table e) == goal_end)) 0 (levels_to table 1 n) at_goal))
        (subst (AllByRecursion IsNumbered) levels_same (numbered-are 0 (n + 1) (omega arith))) in
        let parts = and_parts (f.value.1.job == j) (own_end end (edge_finish table f.value.1) == goal_end) f.passes in
        record {
          level = f.value.0;
          edge = f.value.1;
          found = f.found;
          is_job = eqb-true f.value.1.job j parts.0;
          end_is = eqb-true (own_end end (edge_finish table f.value.1)) goal_end parts.1;
          is = f.is;
        }
