-- The edges of rows: they rise, are those of the rows, and close a cycle where the rows do.
use Rattle.std.proofs.Common.{◌≡◌, ◌≢◌, ℕ, zero, suc, ◌+◌, ◌<◌, ◌≤◌, ◌⊎◌, inl, inr, List, [], ◌∷◌, ◌++◌, drop, eqb, get_or, length, take, refl, sym, subst, ap, ◌∙◌, arith, drop-cons}
use Rattle.std.specs.Prelude.{Contains, fold}
use Rattle.std.specs.BTreeSet.{insert_key}
use Rattle.std.specs.Cmp.{IsTotalOrder}
use Rattle.std.specs.declared.cmp.Ordering.{Ordering}
use Rattle.std.specs.declared.cmp.Ordering.TheVariants.{Less, Equal, Greater}
use Rattle.std.specs.List.{AllByRecursion}
use Rattle.std.specs.List.Sorted.{IsStrictlySortedBy}
use Rattle.std.specs.Ordering.{match_ordering, nat_cmp, ordering_reverse}
use Rattle.std.proofs.lemmas.Cmp.{nat_cmp_total, on_total, then_total}
use Rattle.std.proofs.Math.Seq.{get_or-append_seam}
use Rattle.std.proofs.lemmas.List.{append_assoc, get_or_default, length-append, length-take-le, take-append-drop, take_more}
use Rattle.std.proofs.lemmas.List.Elements.{All-contains, All-from_recursion, Contains-append_left, recursion_from_All}
use Rattle.std.proofs.lemmas.Map.Views.{All-insert_key}
use Rattle.job_model.specs.declared.limits.TheConstants.{MOST_EDGES}
use Rattle.job_model.specs.declared.fault.EdgeFault.{EdgeFault}
use Rattle.job_model.specs.declared.fault.EdgeFault.TheVariants as fault
use Rattle.job_model.specs.Cycles.{HoldsCycle, IsFirstClosing}
use Rattle.job_model.specs.EdgeFaults.{FirstEdgeFault, KeepEdgeRules, ReachedEdge, edges_of}
use Rattle.job_model.specs.Neighbours.{JoinJobs}
use Rattle.job_model.specs.Table.{IsTable, Table, edge_cmp}
use Rattle.job_model.proofs.UrgencyLaws.{both_equal}
use Rattle.lists.proofs.Orderings.{numbers_tie}
use Rattle.job_model.proofs.WalkLemmas.{HoldsCycle-kept}
use Rattle.lists.proofs.Elements.{contains-rest}

edge_total : IsTotalOrder edge_cmp
edge_total = then_total (on_total (λ e. e.0) nat_cmp_total) (on_total (λ e. e.1) nat_cmp_total)

edges_tie : (e f : ℕ × ℕ) → edge_cmp e f ≡ Equal → e ≡ f
edges_tie e f tie =
    let both = both_equal (nat_cmp e.0 f.0) (nat_cmp e.1 f.1) tie in
    pair e.0 e.1 f.0 f.1 (numbers_tie e.0 f.0 both.0) (numbers_tie e.1 f.1 both.1)
  where
    pair : (a b i j : ℕ) → a ≡ i → b ≡ j → ◌≡◌ {A = ℕ × ℕ} (a, b) (i, j)
    pair a b i j p q = cc

-- an edge at its place in a rising list
module _ (e : ℕ × ℕ) where
  abbrev placed : List (ℕ × ℕ) → List (ℕ × ℕ)
  placed edges = insert_key edge_cmp edges e

  placed-rises : (edges : List (ℕ × ℕ)) → IsStrictlySortedBy edge_cmp edges → IsStrictlySortedBy edge_cmp (placed edges)
  unfolding IsStrictlySortedBy
  placed-rises [] up = (tt, tt)
  placed-rises (f ∷ edges) up = by (edge_cmp e f) refl (placed-rises edges up.1)
    where
      head : AllByRecursion (λ g. edge_cmp f g ≡ Less) edges
      head = up.0

      by : (o : Ordering) → edge_cmp e f ≡ o → IsStrictlySortedBy edge_cmp (placed edges) → IsStrictlySortedBy edge_cmp (match_ordering o (e ∷ f ∷ edges) (f ∷ edges) (f ∷ placed edges))
      by Less less rest = ((less, recursion_from_All (λ g. edge_cmp e g ≡ Less) edges (λ k d below. edge_total.trans e f (get_or edges k d) less (All-from_recursion (λ g. edge_cmp f g ≡ Less) edges head k d below))), up)
      by Equal tie rest = up
      by Greater more rest = (
        recursion_from_All (λ g. edge_cmp f g ≡ Less) (placed edges)
            (All-insert_key edge_cmp e (λ g. edge_cmp f g ≡ Less) edges (All-from_recursion (λ g. edge_cmp f g ≡ Less) edges head) (edge_total.antisymm f e ∙ ap ordering_reverse more)),
        rest,
      )

  placed-has : (edges : List (ℕ × ℕ)) → Contains (placed edges) e
  placed-has [] = (0, omega arith, refl)
  placed-has (f ∷ edges) = by (edge_cmp e f) refl (placed-has edges)
    where
      by : (o : Ordering) → edge_cmp e f ≡ o → Contains (placed edges) e → Contains (match_ordering o (e ∷ f ∷ edges) (f ∷ edges) (f ∷ placed edges)) e
      by Less less rest = (0, omega arith, refl)
      by Equal tie rest = (0, omega arith, sym (edges_tie e f tie))
      by Greater more rest = contains-rest f e (placed edges) rest

  placed-keeps : (edges : List (ℕ × ℕ)) (g : ℕ × ℕ) → Contains edges g → Contains (placed edges) g
  placed-keeps [] g there = absurd (omega (arith, there.1))
  placed-keeps (f ∷ edges) g there = by (edge_cmp e f) there (placed-keeps edges g)
    where
      rest : Contains (f ∷ edges) g → (Contains edges g → Contains (placed edges) g) → Contains (f ∷ placed edges) g
      rest (zero, below, is) keeps = (0, omega arith, is)
      rest (suc k, below, is) keeps = contains-rest f g (placed edges) (keeps (k, omega (arith, below), is))

      by : (o : Ordering) → Contains (f ∷ edges) g → (Contains edges g → Contains (placed edges) g) → Contains (match_ordering o (e ∷ f ∷ edges) (f ∷ edges) (f ∷ placed edges)) g
      by Less h keeps = contains-rest e g (f ∷ edges) h
      by Equal h keeps = h
      by Greater h keeps = rest h keeps

  placed-from : (edges : List (ℕ × ℕ)) (g : ℕ × ℕ) → Contains (placed edges) g → (e ≡ g) ⊎ Contains edges g
  placed-from [] g (zero, below, is) = inl is
  placed-from [] g (suc k, below, is) = absurd (omega (arith, below))
  placed-from (f ∷ edges) g there = by (edge_cmp e f) there (placed-from edges g)
    where
      tail : (e ≡ g) ⊎ Contains edges g → (e ≡ g) ⊎ Contains (f ∷ edges) g
      tail (inl same) = inl same
      tail (inr there) = inr (contains-rest f g edges there)

      by : (o : Ordering) → Contains (match_ordering o (e ∷ f ∷ edges) (f ∷ edges) (f ∷ placed edges)) g → (Contains (placed edges) g → (e ≡ g) ⊎ Contains edges g) → (e ≡ g) ⊎ Contains (f ∷ edges) g
      by Less (zero, below, is) from = inl is
      by Less (suc k, below, is) from = inr (k, omega (arith, below), is)
      by Equal h from = inr h
      by Greater (zero, below, is) from = inr (0, omega arith, is)
      by Greater (suc k, below, is) from = tail (from (k, omega (arith, below), is))

  length-placed : (edges : List (ℕ × ℕ)) → length (placed edges) ≤ suc (length edges)
  length-placed [] = omega arith
  length-placed (f ∷ edges) = by (edge_cmp e f) (length-placed edges)
    where
      by : (o : Ordering) → length (placed edges) ≤ suc (length edges) → length (match_ordering o (e ∷ f ∷ edges) (f ∷ edges) (f ∷ placed edges)) ≤ suc (suc (length edges))
      by Less rest = omega arith
      by Equal rest = omega arith
      by Greater rest = omega (arith, rest)

-- the rows go one after another into a list that rises
abbrev all_placed : List (ℕ × ℕ) → List (ℕ × ℕ) → List (ℕ × ℕ)
all_placed edges rows = fold (insert_key edge_cmp) edges rows

all_placed-rise : (edges rows : List (ℕ × ℕ)) → IsStrictlySortedBy edge_cmp edges → IsStrictlySortedBy edge_cmp (all_placed edges rows)
all_placed-rise edges [] up = up
all_placed-rise edges (e ∷ rows) up = all_placed-rise (placed e edges) rows (placed-rises e edges up)

all_placed-keep : (edges rows : List (ℕ × ℕ)) (g : ℕ × ℕ) → Contains edges g → Contains (all_placed edges rows) g
all_placed-keep edges [] g there = there
all_placed-keep edges (e ∷ rows) g there = all_placed-keep (placed e edges) rows g (placed-keeps e edges g there)

all_placed-have : (edges rows : List (ℕ × ℕ)) (g : ℕ × ℕ) → Contains rows g → Contains (all_placed edges rows) g
all_placed-have edges [] g there = absurd (omega (arith, there.1))
all_placed-have edges (e ∷ rows) g (zero, below, is) = all_placed-keep (placed e edges) rows g (subst (λ x. Contains (placed e edges) x) is (placed-has e edges))
all_placed-have edges (e ∷ rows) g (suc k, below, is) = all_placed-have (placed e edges) rows g (k, omega (arith, below), is)

all_placed-from : (edges rows : List (ℕ × ℕ)) (g : ℕ × ℕ) → Contains (all_placed edges rows) g → Contains edges g ⊎ Contains rows g
all_placed-from edges [] g there = inl there
all_placed-from edges (e ∷ rows) g there = by (all_placed-from (placed e edges) rows g there)
  where
    first : (e ≡ g) ⊎ Contains edges g → Contains edges g ⊎ Contains (e ∷ rows) g
    first (inl same) = inr (0, omega arith, same)
    first (inr h) = inl h

    by : Contains (placed e edges) g ⊎ Contains rows g → Contains edges g ⊎ Contains (e ∷ rows) g
    by (inl h) = first (placed-from e edges g h)
    by (inr h) = inr (contains-rest e g rows h)

length-all_placed : (edges rows : List (ℕ × ℕ)) → length (all_placed edges rows) ≤ length edges + length rows
length-all_placed edges [] = omega arith
length-all_placed edges (e ∷ rows) = omega (arith, length-all_placed (placed e edges) rows, length-placed e edges)

edge-of_row : (rows : List (ℕ × ℕ)) (e : ℕ × ℕ) → Contains rows e → Contains (edges_of rows) e
edge-of_row rows e there = all_placed-have [] rows e there

row-of_edge : (rows : List (ℕ × ℕ)) (e : ℕ × ℕ) → Contains (edges_of rows) e → Contains rows e
row-of_edge rows e there = by (all_placed-from [] rows e there)
  where
    by : Contains [] e ⊎ Contains rows e → Contains rows e
    by (inl none) = absurd (omega (arith, none.1))
    by (inr h) = h

-- the edges of rows hold a cycle where the rows do
pub HoldsCycle-edges : (rows : List (ℕ × ℕ)) → HoldsCycle rows → HoldsCycle (edges_of rows)
HoldsCycle-edges rows cycle = HoldsCycle-kept rows (edges_of rows) (edge-of_row rows) cycle

-- the edges of rows join what the rows join
pub edges-joined : (count : ℕ) (rows : List (ℕ × ℕ)) → JoinJobs count rows → JoinJobs count (edges_of rows)
edges-joined count rows joined k d below =
    All-contains (λ e. (e.0 < count) × (e.1 < count)) rows (get_or (edges_of rows) k d) joined (row-of_edge rows (get_or (edges_of rows) k d) (k, below, get_or_default (edges_of rows) k (get_or (edges_of rows) k d) d below))

-- a table with the edges of rows that keep the rules
pub IsTable-edges : (table : Table) (rows : List (ℕ × ℕ)) → IsTable table → JoinJobs (length table.jobs) rows → KeepEdgeRules rows → IsTable (record { jobs = table.jobs; edges = edges_of rows })
unfolding IsStrictlySortedBy
IsTable-edges table rows is_table joined keep = record {
  few_jobs = is_table.few_jobs;
  jobs = is_table.jobs;
  ids_differ = is_table.ids_differ;
  few_edges = omega (arith, length-all_placed [] rows, keep.few);
  edges_rise = all_placed-rise [] rows tt;
  edges_in_range = edges-joined (length table.jobs) rows joined;
  no_cycle = λ j n w. keep.no_cycle (HoldsCycle-kept (edges_of rows) rows (row-of_edge rows) (record { job = j; further = n; walk = w }));
}

module _ (rows : List (ℕ × ℕ)) (few : length rows ≤ MOST_EDGES) (k : ℕ) (first : IsFirstClosing rows k) (here : ℕ × ℕ) (is : here ≡ get_or rows k here) where
  split : rows ≡ take k rows ++ here ∷ drop (suc k) rows
  split =
      sym (take-append-drop k rows)
      ∙ ap (λ l. take k rows ++ l) (drop-cons rows k here first.is_row ∙ ap (λ e. e ∷ drop (suc k) rows) (sym is))

  abbrev reached-closing : ReachedEdge rows (k + 1)
  reached-closing = record {
    before = take k rows;
    here = here;
    after = drop (suc k) rows;
    split = split;
    place = ap (λ n. n + 1) (sym (length-take-le k rows (omega (arith, first.is_row))));
    few = few;
    kept = first.none_before;
  }

  closes-cycle : HoldsCycle (take k rows ++ here ∷ [])
  closes-cycle = rw (take_more rows k here first.is_row ∙ ap (λ e. take k rows ++ e ∷ []) (sym is)) at first.closes

  -- the first row that closes a cycle names one job twice, or it does not
  pub self-edge : here.0 ≡ here.1 → FirstEdgeFault rows (fault.SelfEdge (k + 1))
  self-edge same = (reached-closing, same)

  pub cycle-edge : here.0 ≢ here.1 → FirstEdgeFault rows (fault.Cycle (k + 1))
  cycle-edge differ = (reached-closing, differ, closes-cycle)

-- rows with a first broken rule do not keep the rules
pub no-rules : (rows : List (ℕ × ℕ)) (e : EdgeFault) → e ≢ fault.Memory → FirstEdgeFault rows e → ¬ KeepEdgeRules rows
no-rules rows fault.TooManyEdges other first keep = omega (arith, first, keep.few)
no-rules rows (fault.SelfEdge row) other first keep = keep.no_cycle (cycle first.0 first.1)
  where
    cycle : (r : ReachedEdge rows row) → r.here.0 ≡ r.here.1 → HoldsCycle rows
    cycle r same = record { job = r.here.0; further = 0; walk = (r.here.0, (length r.before, at r, loop r same), refl) }
      where
        at : (r : ReachedEdge rows row) → length r.before < length rows
        at r = omega (arith, ap length r.split, length-append r.before (r.here ∷ r.after))

        loop : (r : ReachedEdge rows row) → r.here.0 ≡ r.here.1 → get_or rows (length r.before) (r.here.0, r.here.0) ≡ (r.here.0, r.here.0)
        loop r same = rw r.split (get_or-append_seam r.before r.here r.after (r.here.0, r.here.0)) ∙ pair r.here.0 r.here.1 same
          where
            pair : (a b : ℕ) → a ≡ b → ◌≡◌ {A = ℕ × ℕ} (a, b) (a, a)
            pair a b p = cc
no-rules rows (fault.Cycle row) other first keep = keep.no_cycle (HoldsCycle-kept (first.0.before ++ first.0.here ∷ []) rows (λ e there. rest first.0 e there) first.2)
  where
    rest : (r : ReachedEdge rows row) (e : ℕ × ℕ) → Contains (r.before ++ r.here ∷ []) e → Contains rows e
    rest r e there = subst (λ l. Contains l e) (append_assoc r.before (r.here ∷ []) r.after ∙ sym r.split) (Contains-append_left (r.before ++ r.here ∷ []) r.after e there)
no-rules rows fault.Memory other first keep = other refl

-- a row's two parts, read one after the other
pub read_twice : (rows : List (ℕ × ℕ)) (k : ℕ) (a b : ℕ × ℕ) → k < length rows → a ≡ get_or rows k a → eqb a.0 a.1 ≡ eqb (get_or rows k a).0 (get_or rows k b).1
read_twice rows k a b below is = ap (λ (e : ℕ × ℕ). eqb e.0 e.1) is ∙ ap (λ (e : ℕ × ℕ). eqb (get_or rows k a).0 e.1) (get_or_default rows k a b below)
