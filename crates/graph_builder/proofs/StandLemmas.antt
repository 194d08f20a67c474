-- A builder at a level, and one level further.
use Rattle.std.proofs.Common.{◌≡◌, ◌≢◌, ℕ, suc, zero, Bool, true, false, cond, List, [], ◌∷◌, ◌++◌, ◌+◌, ◌<◌, ◌≤◌, length, refl, sym, ap, ◌∙◌, subst, arith, add-one}
use Rattle.std.specs.Prelude.{find, flat_map, nat_eq, Option, Some, None}
use Rattle.std.specs.List.{range_with_len, AllByRecursion}
use Rattle.std.specs.Option.{option_or}
use Rattle.std.proofs.lemmas.List.Folds.{find-append}
use Rattle.job_model.specs.declared.limits.TheConstants.{MOST_CORES, MOST_JOBS}
use Rattle.job_model.specs.Table.{Table, IsTable}
use Rattle.sag_time.specs.Interval.{Interval}
use Rattle.sag_step.specs.State.{SystemState, root}
use Rattle.sag_step.specs.Group.{Offer, offers, placed}
use Rattle.std.specs.List.{list_all}
use Rattle.std.specs.Prelude.{nat_le, replicate}
use Rattle.sag_step.specs.Shape.{IsState}
use Rattle.sag_graph.specs.declared.edge.Edge.{Edge}
use Rattle.sag_graph.specs.Levels.{Level, level_at, next_level}
use Rattle.sag_graph.specs.Spans.{edges_up_to, spans_by, spans_up_to}
use Rattle.sag_graph.specs.Budget.{Spending, exceeds, spending_before, spendings_at, spendings_into, spent, state_total, edge_total}
use Rattle.graph_builder.specs.declared.fault.LevelFault.{LevelFault}
use Rattle.graph_builder.specs.declared.fault.LevelFault.TheVariants as fault
use Rattle.graph_builder.specs.declared.draft.Draft.{Draft}
use Rattle.graph_builder.specs.Fit.{AreEdges, AreReady, IsEdge, most_at}
use Rattle.graph_builder.specs.Filling.{FitsBudget, IsDraft, IsOver, before_of, first_over, level_of, no_level}
use Rattle.graph_builder.proofs.FitLemmas.{most-few}
use Rattle.graph_builder.proofs.SpanLemmas.{spans-length}
use Rattle.graph_builder.specs.Standing.{IsSpentAfter, IsStanding, Standing, purse_of, builder_at}

-- the totals after the offers of a level, as a builder counts them
pub over-at : (table : Table) (m budget k : ℕ) →
    first_over budget (spending_before table m k) no_level (offers table (level_at table m k).states) ≡ find (exceeds budget) (spendings_at table m k)
unfolding first_over spendings_at
over-at table m budget k =
    let more : edge_total table m k + 0 ≡ edge_total table m k = omega arith in
    ap (λ n. find (exceeds budget) (spendings_into (record { level = k + 1; states = state_total table m k; edges = n }) [] (offers table (level_at table m k).states))) more

-- ---- the first that is over, level by level

find-behind : (p : Spending → Bool) (f : ℕ → List Spending) (a n l : ℕ) (s : Spending) → a ≤ l → l < a + n → ((k : ℕ) → a ≤ k → k < l → find p (f k) ≡ None) → find p (f l) ≡ Some s →
    find p (flat_map f (range_with_len a n)) ≡ Some s
find-behind p f a zero l s le lt none some = absurd (omega arith)
find-behind p f a (suc n) l s le lt none some =
    find-append p (f a) (flat_map f (range_with_len (a + 1) n))
    ∙ by (nat_eq a l) refl (λ ne. find-behind p f (a + 1) n l s (omega arith) (omega arith) (λ k le lt. none k (omega arith) lt) some) (λ below. none a (omega arith) below)
  where
    same : (x y : ℕ) → nat_eq x y ≡ true → x ≡ y
    same x y e = grind arith

    apart : (x y : ℕ) → nat_eq x y ≡ false → x ≢ y
    apart x y e = grind arith

    by : (b : Bool) → nat_eq a l ≡ b → (a ≢ l → find p (flat_map f (range_with_len (a + 1) n)) ≡ Some s) → (a < l → find p (f a) ≡ None) →
        option_or (find p (f a)) (find p (flat_map f (range_with_len (a + 1) n))) ≡ Some s
    by true e rest here = ap (λ o. option_or o (find p (flat_map f (range_with_len (a + 1) n)))) (ap (λ k. find p (f k)) (same a l e) ∙ some)
    by false e rest here =
        let ne = apart a l e in
        ap (λ o. option_or o (find p (flat_map f (range_with_len (a + 1) n)))) (here (omega (arith, ne))) ∙ rest ne

find-nowhere : (p : Spending → Bool) (f : ℕ → List Spending) (a n : ℕ) → ((k : ℕ) → a ≤ k → k < a + n → find p (f k) ≡ None) → find p (flat_map f (range_with_len a n)) ≡ None
find-nowhere p f a zero none = refl
find-nowhere p f a (suc n) none =
    find-append p (f a) (flat_map f (range_with_len (a + 1) n))
    ∙ ap (λ o. option_or o (find p (flat_map f (range_with_len (a + 1) n)))) (none a (omega arith) (omega arith))
    ∙ find-nowhere p f (a + 1) n (λ k le lt. none k (omega arith) (omega arith))

-- the level that is told is the one that the offers lead to
told-level : (p : Spending → Bool) (os : List Offer) (before : Spending) (states : List SystemState) (x : Spending) → find p (spendings_into before states os) ≡ Some x → x.level ≡ before.level
told-level p [] before states x e = absurd (cc)
told-level p (o ∷ os) before states x e =
    by (p here) e (λ h. told-level p os (record { level = before.level; states = before.states; edges = before.edges + 1 }) (placed states o.next) x h)
  where
    here : Spending
    here = record { level = before.level; states = before.states + length (placed states o.next); edges = before.edges + 1 }

    by : (b : Bool) → cond b (Some (record { level = before.level; states = before.states + length (placed states o.next); edges = before.edges + 1 }))
        (find p (spendings_into (record { level = before.level; states = before.states; edges = before.edges + 1 }) (placed states o.next) os)) ≡ Some x →
        (find p (spendings_into (record { level = before.level; states = before.states; edges = before.edges + 1 }) (placed states o.next) os) ≡ Some x → x.level ≡ before.level) → x.level ≡ before.level
    by true e rest = let same : record { level = before.level; states = before.states + length (placed states o.next); edges = before.edges + 1 } ≡ x = cc in ap (λ (y : Spending). y.level) (sym same)
    by false e rest = rest e

-- ---- level 0, and one level further

level-next : (table : Table) (m k : ℕ) → level_at table m (k + 1) ≡ next_level table (level_at table m k).states
unfolding level_at
level-next table m k = ap (level_at table m) (add-one k)

states-next : (table : Table) (m k : ℕ) → state_total table m (k + 1) ≡ state_total table m k + length (level_at table m (k + 1)).states
unfolding state_total
states-next table m k = ap (state_total table m) (add-one k) ∙ ap (λ n. state_total table m k + length (level_at table m n).states) (sym (add-one k))

edges-next : (table : Table) (m k : ℕ) → edge_total table m (k + 1) ≡ edge_total table m k + length (level_at table m (k + 1)).edges
unfolding edge_total
edges-next table m k = ap (edge_total table m) (add-one k) ∙ ap (λ n. edge_total table m k + length (level_at table m n).edges) (sym (add-one k))

up_to-next : (table : Table) (m k : ℕ) → edges_up_to table m (k + 1) ≡ edges_up_to table m k ++ (level_at table m (k + 1)).edges
unfolding edges_up_to
up_to-next table m k = ap (edges_up_to table m) (add-one k) ∙ ap (λ n. edges_up_to table m k ++ (level_at table m n).edges) (sym (add-one k))

-- At level 0 there is the root alone.
pub first-standing : (table : Table) (m budget : ℕ) → builder_at table m budget 0
    ≡ record { table = table; cores = m; budget = budget; level = 0; states = root table m ∷ []; edges = []; spans = spans_by table []; state_total = 1; edge_total = 0 }
unfolding level_at edges_up_to state_total edge_total
first-standing table m budget = refl

pub first-stands : (table : Table) (m budget : ℕ) → IsTable table → 1 ≤ m → m ≤ MOST_CORES → 1 ≤ budget → IsStanding (builder_at table m budget 0)
unfolding level_at edges_up_to state_total edge_total
first-stands table m budget is_table cores few some = record {
  is_table = is_table;
  some_core = cores;
  few_cores = few;
  is_level = omega arith;
  of_graph = refl;
  few_states = some;
  few_edges = omega arith;
  within = λ k lt. absurd (omega (arith, lt));
}

module _ (s : Standing) (stands : IsStanding s) where
  stand-states : s.states ≡ (level_at s.table s.cores s.level).states
  stand-states = ap (λ (t : Standing). t.states) stands.of_graph

  stand-before : before_of (purse_of s) ≡ spending_before s.table s.cores s.level
  stand-before = λ i. record {
    level = s.level + 1;
    states = ap (λ (t : Standing). t.state_total) stands.of_graph i;
    edges = ap (λ (t : Standing). t.edge_total) stands.of_graph i;
  }

  -- the offers of its level that are over the budget
  pub stand-over : first_over s.budget (before_of (purse_of s)) no_level (offers s.table s.states) ≡ find (exceeds s.budget) (spendings_at s.table s.cores s.level)
  stand-over =
      ap (λ b. first_over s.budget b no_level (offers s.table s.states)) stand-before
      ∙ ap (λ ss. first_over s.budget (spending_before s.table s.cores s.level) no_level (offers s.table ss)) stand-states
      ∙ over-at s.table s.cores s.budget s.level

  told-here : (x : Spending) → find (exceeds s.budget) (spendings_at s.table s.cores s.level) ≡ Some x → x.level ≡ s.level + 1
  unfolding spendings_at
  told-here x e = told-level (exceeds s.budget) (offers s.table (level_at s.table s.cores s.level).states) (spending_before s.table s.cores s.level) [] x e

  -- What a fault tells of these offers is where the budget is spent.
  pub spent-after : s.level < length s.table.jobs → (x : LevelFault) → IsOver (first_over s.budget (before_of (purse_of s)) no_level (offers s.table s.states)) x → IsSpentAfter s x
  unfolding spent
  spent-after lt (fault.Spent k states edges) h =
      let here : find (exceeds s.budget) (spendings_at s.table s.cores s.level) ≡ Some (record { level = k; states = states; edges = edges }) = sym stand-over ∙ h in (
        told-here (record { level = k; states = states; edges = edges }) here,
        find-behind (exceeds s.budget) (spendings_at s.table s.cores) 0 (length s.table.jobs) s.level (record { level = k; states = states; edges = edges }) (omega arith) (omega arith)
            (λ j le below. stands.within j below) here,
      )
  spent-after lt fault.Memory h = tt

  -- At the last level the whole graph is within the budget.
  pub whole-within : s.level ≡ length s.table.jobs → spent s.table s.cores s.budget ≡ None
  unfolding spent
  whole-within last = find-nowhere (exceeds s.budget) (spendings_at s.table s.cores) 0 (length s.table.jobs) (λ k le lt. stands.within k (omega (arith, lt, last)))

  module _ (level : Level) (made : level ≡ next_level s.table s.states) where
    level-is : level ≡ level_at s.table s.cores (s.level + 1)
    level-is = made ∙ ap (next_level s.table) stand-states ∙ sym (level-next s.table s.cores s.level)

    -- with the edges into the next level
    pub spans-before : s.spans ≡ spans_by s.table (edges_up_to s.table s.cores s.level)
    spans-before = ap (λ (t : Standing). t.spans) stands.of_graph

    abbrev pub one-up : List (Option Interval) → Standing
    one-up spans = record {
      table = s.table;
      cores = s.cores;
      budget = s.budget;
      level = s.level + 1;
      states = level.states;
      edges = level.edges;
      spans = spans;
      state_total = s.state_total + length level.states;
      edge_total = s.edge_total + length level.edges;
    }

    module _ (spans : List (Option Interval)) (spans-is : spans ≡ spans_by s.table (edges_up_to s.table s.cores s.level ++ level.edges)) where
      pub is-up : one-up spans ≡ builder_at s.table s.cores s.budget (s.level + 1)
      is-up =
          let states : s.state_total + length level.states ≡ state_total s.table s.cores (s.level + 1) =
          ap (λ n. n + length level.states) (ap (λ (t : Standing). t.state_total) stands.of_graph)
          ∙ ap (λ (l : Level). state_total s.table s.cores s.level + length l.states) level-is ∙ sym (states-next s.table s.cores s.level) in
          let edges : s.edge_total + length level.edges ≡ edge_total s.table s.cores (s.level + 1) =
          ap (λ n. n + length level.edges) (ap (λ (t : Standing). t.edge_total) stands.of_graph)
          ∙ ap (λ (l : Level). edge_total s.table s.cores s.level + length l.edges) level-is ∙ sym (edges-next s.table s.cores s.level) in
          let own : spans ≡ spans_up_to s.table s.cores (s.level + 1) =
          spans-is ∙ ap (λ (l : Level). spans_by s.table (edges_up_to s.table s.cores s.level ++ l.edges)) level-is ∙ ap (spans_by s.table) (sym (up_to-next s.table s.cores s.level)) in
          λ i. record {
            table = s.table;
            cores = s.cores;
            budget = s.budget;
            level = s.level + 1;
            states = (level-is i).states;
            edges = (level-is i).edges;
            spans = own i;
            state_total = states i;
            edge_total = edges i;
          }

      pub stands-up : s.level < length s.table.jobs → first_over s.budget (before_of (purse_of s)) no_level (offers s.table s.states) ≡ None → FitsBudget (purse_of s) level →
          IsStanding (one-up spans)
      stands-up lt none fits = record {
        is_table = stands.is_table;
        some_core = stands.some_core;
        few_cores = stands.few_cores;
        is_level = omega (arith, lt);
        of_graph = is-up;
        few_states = fits.states;
        few_edges = fits.edges;
        within = λ k below. by k (nat_eq k s.level) refl below;
      }
        where
          same : (x y : ℕ) → nat_eq x y ≡ true → x ≡ y
          same x y e = grind arith

          apart : (x y : ℕ) → nat_eq x y ≡ false → x ≢ y
          apart x y e = grind arith

          by : (k : ℕ) (b : Bool) → nat_eq k s.level ≡ b → k < s.level + 1 → find (exceeds s.budget) (spendings_at s.table s.cores k) ≡ None
          by k true e below = ap (λ j. find (exceeds s.budget) (spendings_at s.table s.cores j)) (same k s.level e) ∙ sym stand-over ∙ none
          by k false e below = let ne = apart k s.level e in stands.within k (omega (arith, below, ne))

-- ---- the draft of the next level

edges-wider : (table : Table) (limit wider : ℕ) (edges : List Edge) → limit ≤ wider → AreEdges table limit edges → AreEdges table wider edges
edges-wider table limit wider edges more all = record { each = by edges all.each }
  where
    by : (es : List Edge) → AllByRecursion (IsEdge table limit) es → AllByRecursion (IsEdge table wider) es
    by [] h = tt
    by (e ∷ es) h = let own = h.0 in let late = own.latest in (record { is_job = own.is_job; in_order = own.in_order; latest = omega (arith, late, more) }, by es h.1)

-- what is asked of the draft, where the fields are seen as `s`
pub record IsNextDraft (s : Standing) (draft : Draft) : Type 0 where
  pub level : s.level < length s.table.jobs
  pub made : level_of draft ≡ next_level s.table s.states
  pub kept : IsDraft s.table s.cores (most_at (s.level + 1)) draft
  pub fits : FitsBudget (purse_of s) (level_of draft)
  pub within : first_over s.budget (before_of (purse_of s)) no_level (offers s.table s.states) ≡ None

module _ (s now : Standing) (is : s ≡ now) (stands : IsStanding s) (draft : Draft) (given : IsNextDraft now draft) where
  next-draft : IsNextDraft s draft
  next-draft = subst (λ t. IsNextDraft t draft) (sym is) given

  pub draft-edges : AreEdges s.table 4611686018427387903 draft.edges.items
  draft-edges =
      let few : s.level + 1 ≤ MOST_JOBS = omega (arith, next-draft.level, stands.is_table.few_jobs) in
      edges-wider s.table (most_at (s.level + 1)) 4611686018427387903 draft.edges.items (most-few (s.level + 1) few) next-draft.kept.edges

  pub spans-count : length s.spans ≡ length s.table.jobs
  spans-count = ap length (spans-before s stands (level_of draft) next-draft.made) ∙ spans-length s.table (edges_up_to s.table s.cores s.level)

  pub draft-ready : AreReady s.table s.cores (most_at (s.level + 1)) draft.index draft.fronts.items
  draft-ready = next-draft.kept.ready

  module _ (states : List SystemState) (states-is : states ≡ draft.index) (n k : ℕ) (n-is : n ≡ length draft.index) (k-is : k ≡ length draft.edges.items)
      (spans : List (Option Interval)) (spans-is : (before : List Edge) → s.spans ≡ spans_by s.table before → spans ≡ spans_by s.table (before ++ draft.edges.items)) where
    abbrev pub went-up : Standing
    went-up = record {
      table = s.table;
      cores = s.cores;
      budget = s.budget;
      level = s.level + 1;
      states = states;
      edges = draft.edges.items;
      spans = spans;
      state_total = s.state_total + n;
      edge_total = s.edge_total + k;
    }

    own-spans : spans ≡ spans_by s.table (edges_up_to s.table s.cores s.level ++ (level_of draft).edges)
    own-spans = spans-is (edges_up_to s.table s.cores s.level) (spans-before s stands (level_of draft) next-draft.made)

    same : went-up ≡ one-up s stands (level_of draft) next-draft.made spans
    same = λ i. record {
      table = s.table;
      cores = s.cores;
      budget = s.budget;
      level = s.level + 1;
      states = states-is i;
      edges = draft.edges.items;
      spans = spans;
      state_total = s.state_total + n-is i;
      edge_total = s.edge_total + k-is i;
    }

    pub went-stands : IsStanding went-up
    went-stands =
        subst IsStanding (sym same) (stands-up s stands (level_of draft) next-draft.made spans own-spans next-draft.level next-draft.within next-draft.fits)

    pub went-is : went-up ≡ builder_at now.table now.cores now.budget (now.level + 1)
    went-is =
        same ∙ is-up s stands (level_of draft) next-draft.made spans own-spans
        ∙ ap (λ (t : Standing). builder_at t.table t.cores t.budget (t.level + 1)) is

-- ---- level 0 in memory

level-few : (table : Table) (m k : ℕ) → length (level_at table m k).states ≤ state_total table m k
unfolding state_total
level-few table m zero = omega arith
level-few table m (suc k) = omega arith

pub stand-few : (s : Standing) → IsStanding s → length s.states ≤ s.state_total
stand-few s stands =
    let count : length s.states ≡ length (level_at s.table s.cores s.level).states = ap length (stand-states s stands) in
    let total : s.state_total ≡ state_total s.table s.cores s.level = ap (λ (t : Standing). t.state_total) stands.of_graph in
    omega (arith, level-few s.table s.cores s.level, count, total)

-- the one state of level 0, seen by its parts
pub first-is : (table : Table) (m budget : ℕ) (states : List SystemState) (edges : List Edge) (spans : List (Option Interval)) → states ≡ root table m ∷ [] → edges ≡ [] → spans ≡ spans_by table [] →
    record { table = table; cores = m; budget = budget; level = 0; states = states; edges = edges; spans = spans; state_total = 1; edge_total = 0 } ≡ builder_at table m budget 0
first-is table m budget states edges spans states-is edges-is spans-is =
    (λ i. record { table = table; cores = m; budget = budget; level = 0; states = states-is i; edges = edges-is i; spans = spans-is i; state_total = 1; edge_total = 0 })
    ∙ sym (first-standing table m budget)

pub zeros-up : (m limit : ℕ) → list_all (λ t. nat_le t limit) (replicate m 0) ≡ true
zeros-up zero limit = refl
zeros-up (suc m) limit = rw (zero-le limit) (zeros-up m limit)
  where
    zero-le : (n : ℕ) → nat_le 0 n ≡ true
    zero-le n = grind arith

-- the root, with the first front
pub first-ready : (table : Table) (m limit : ℕ) (states : List SystemState) (ts : List ℕ) → IsState table m (root table m) → states ≡ root table m ∷ [] → ts ≡ 0 ∷ [] → AreReady table m limit states ts
first-ready table m limit states ts is states-is ts-is =
    rw (states-is, ts-is) (record {
      each = (
        record {
          is_state = is;
          in_limit = record { low = zeros-up m limit; high = zeros-up m limit; ends = refl };
          is_front = record { in_order = omega arith; passed = λ k lt. absurd (omega (arith, lt)) };
        },
        tt,
      );
    })

-- ---- the span of a job

pub stand-spans : (s : Standing) → IsStanding s → length s.spans ≡ length s.table.jobs
stand-spans s stands = ap (λ (t : Standing). length t.spans) stands.of_graph ∙ spans-length s.table (edges_up_to s.table s.cores s.level)

-- ---- level 0 again

root-alone : (table : Table) (m k : ℕ) → k ≡ 0 → length (level_at table m k).states ≡ 1
unfolding level_at
root-alone table m k e = ap (λ n. length (level_at table m n).states) e

-- At level 0 there is one state.
pub stand-root : (s : Standing) → IsStanding s → s.level ≡ 0 → length s.states ≡ 1
stand-root s stands e = ap length (stand-states s stands) ∙ root-alone s.table s.cores s.level e
