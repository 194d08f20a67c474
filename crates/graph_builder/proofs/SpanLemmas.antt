-- The spans of the jobs, with an edge more.
use Rattle.std.proofs.Common.{◌≡◌, ◌≢◌, ℕ, suc, zero, Bool, true, false, cond, List, [], ◌∷◌, ◌++◌, ◌+◌, ◌<◌, ◌≤◌, fold, filter, length, map, set, get_or, refl, sym, ap, ◌∙◌, subst, arith, append_assoc, take}
use Rattle.std.specs.Prelude.{◌==◌, nat_eq, Option, Some, None, if◌then◌else◌}
use Rattle.std.specs.List.{AllByRecursion, range_with_len}
use Rattle.std.proofs.Math.ListN.{replicate}
use Rattle.std.proofs.lemmas.List.{ext_get_or, get_or-set_same, get_or-set_other, length-map, length-set, map-append, take_more}
use Rattle.std.proofs.lemmas.List.Elements.{filter-append}
use Rattle.std.proofs.lemmas.List.FromFn.{get_or-map-range_with_len, length-range_with_len}
use Rattle.std.proofs.lemmas.List.Sums.{fold-append}
use Rattle.lists.specs.Numbers.{numbers_below}
use Rattle.job_model.specs.Table.{Table}
use Rattle.sag_time.specs.Interval.{Interval}
use Rattle.sag_graph.specs.declared.edge.Edge.{Edge}
use Rattle.sag_graph.specs.Spans.{edge_finish, hull_with, span_of, spans_by}
use Rattle.graph_builder.specs.Fit.{IsEdge}
use Rattle.graph_builder.specs.Writing.{IsSpanUpTo}

-- the span of a job with an edge more
span-push : (table : Table) (edges : List Edge) (e : Edge) (j : ℕ) →
    span_of table (edges ++ e ∷ []) j ≡ (if e.job == j then hull_with (span_of table edges j) (edge_finish table e) else span_of table edges j)
span-push table edges e j =
    let test : Edge → Bool = λ f. f.job == j in
    ap (λ es. fold hull_with None (map (edge_finish table) es)) (filter-append test edges (e ∷ []))
    ∙ ap (fold hull_with None) (map-append (edge_finish table) (filter test edges) (filter test (e ∷ [])))
    ∙ fold-append hull_with None (map (edge_finish table) (filter test edges)) (map (edge_finish table) (filter test (e ∷ [])))
    ∙ by (e.job == j)
  where
    by : (b : Bool) → fold hull_with (span_of table edges j) (map (edge_finish table) (cond b (e ∷ []) []))
        ≡ (if b then hull_with (span_of table edges j) (edge_finish table e) else span_of table edges j)
    by true = refl
    by false = refl

pub spans-length : (table : Table) (edges : List Edge) → length (spans_by table edges) ≡ length table.jobs
unfolding spans_by
spans-length table edges = length-map (numbers_below (length table.jobs)) (span_of table edges) ∙ length-range_with_len 0 (length table.jobs)

spans-at : (table : Table) (edges : List Edge) (j : ℕ) → j < length table.jobs → get_or (spans_by table edges) j None ≡ span_of table edges j
unfolding spans_by
spans-at table edges j lt = get_or-map-range_with_len (span_of table edges) 0 (length table.jobs) j j None lt (zero-add j)
  where
    zero-add : (n : ℕ) → 0 + n ≡ n
    zero-add n = omega arith

-- without edges no job has a span
pub spans-none : (table : Table) → spans_by table [] ≡ replicate (length table.jobs) None
unfolding spans_by
spans-none table = by 0 (length table.jobs)
  where
    by : (a n : ℕ) → map (span_of table []) (range_with_len a n) ≡ replicate n None
    by a zero = refl
    by a (suc n) = ap (λ l. None ∷ l) (by (a + 1) n)

module _ (table : Table) (edges : List Edge) (e : Edge) (spans : List (Option Interval)) (is : spans ≡ spans_by table edges) (job : e.job < length table.jobs)
    (new : Option Interval) (new-is : new ≡ hull_with (span_of table edges e.job) (edge_finish table e)) where
  count : length spans ≡ length table.jobs
  count = ap length is ∙ spans-length table edges

  each : (j : ℕ) → j < length (set spans e.job new) → get_or (set spans e.job new) j None ≡ get_or (spans_by table (edges ++ e ∷ [])) j None
  each j lt =
      let below : j < length table.jobs = omega (arith, length-set spans e.job new, count, lt) in
      by (e.job == j) refl below ∙ sym (spans-at table (edges ++ e ∷ []) j below ∙ span-push table edges e j)
    where
      nat-same : (a b : ℕ) → nat_eq a b ≡ true → a ≡ b
      nat-same a b e = grind arith

      nat-apart : (a b : ℕ) → nat_eq a b ≡ false → b ≢ a
      nat-apart a b e = grind arith

      by : (b : Bool) → (e.job == j) ≡ b → j < length table.jobs →
          get_or (set spans e.job new) j None ≡ (if (e.job == j) then hull_with (span_of table edges j) (edge_finish table e) else span_of table edges j)
      by true p below =
          let same = nat-same e.job j p in
          let within : e.job < length spans = omega (arith, count, job) in
          subst (λ k. get_or (set spans e.job new) k None ≡ (if (e.job == j) then hull_with (span_of table edges j) (edge_finish table e) else span_of table edges j)) same
          (get_or-set_same spans e.job new None within ∙ new-is ∙ ap (λ k. hull_with (span_of table edges k) (edge_finish table e)) same
          ∙ ap (λ b. if b then hull_with (span_of table edges j) (edge_finish table e) else span_of table edges j) (sym p))
      by false p below =
          get_or-set_other spans e.job j new None (nat-apart e.job j p) ∙ ap (λ l. get_or l j None) is ∙ spans-at table edges j below
          ∙ ap (λ b. if b then hull_with (span_of table edges j) (edge_finish table e) else span_of table edges j) (sym p)

  -- the span of the edge's job becomes the hull
  pub spans-push : set spans e.job new ≡ spans_by table (edges ++ e ∷ [])
  spans-push =
      ext_get_or None (set spans e.job new) (spans_by table (edges ++ e ∷ []))
      (length-set spans e.job new ∙ count ∙ sym (spans-length table (edges ++ e ∷ []))) each

-- ---- a step of a walk along edges

take-next : (xs : List Edge) (k : ℕ) (x : Edge) → k < length xs → x ≡ get_or xs k x → take (k + 1) xs ≡ take k xs ++ x ∷ []
take-next xs k x lt is = take_more xs k x lt ∙ ap (λ y. take k xs ++ y ∷ []) (sym is)

pub spans-more : (table : Table) (before edges : List Edge) (k : ℕ) (e : Edge) → k < length edges → e ≡ get_or edges k e → e.job < length table.jobs → (spans : List (Option Interval)) →
    spans ≡ spans_by table (before ++ take k edges) → (finish : Interval) → finish ≡ edge_finish table e → (more : List (Option Interval)) →
    more ≡ set spans e.job (hull_with (get_or spans e.job None) finish) → more ≡ spans_by table (before ++ take (k + 1) edges)
spans-more table before edges k e lt is job spans spans-is finish finish-is more more-is =
    let own : hull_with (get_or spans e.job None) finish ≡ hull_with (span_of table (before ++ take k edges) e.job) (edge_finish table e) =
    ap (λ l. hull_with (get_or l e.job None) finish) spans-is ∙ ap (λ s. hull_with s finish) (spans-at table (before ++ take k edges) e.job job)
    ∙ ap (hull_with (span_of table (before ++ take k edges) e.job)) finish-is in
    more-is
    ∙ spans-push table (before ++ take k edges) e spans spans-is job (hull_with (get_or spans e.job None) finish) own
    ∙ ap (spans_by table) (append_assoc before (take k edges) (e ∷ []) ∙ ap (λ l. before ++ l) (sym (take-next edges k e lt is)))

pub spans-count : (spans more : List (Option Interval)) (j : ℕ) (new : Option Interval) → more ≡ set spans j new → length more ≡ length spans
spans-count spans more j new is = ap length is ∙ length-set spans j new

-- ---- no span ends later than a limit of all edges

fits-with : (limit : ℕ) (span : Option Interval) (a : Interval) → IsSpanUpTo limit span → a.hi ≤ limit → IsSpanUpTo limit (hull_with span a)
fits-with limit None a h own = own
fits-with limit (Some s) a h own = omega (arith, h, own)

fits-at : (limit : ℕ) (spans : List (Option Interval)) (j : ℕ) → AllByRecursion (IsSpanUpTo limit) spans → IsSpanUpTo limit (get_or spans j None)
fits-at limit [] j all = tt
fits-at limit (s ∷ spans) zero all = all.0
fits-at limit (s ∷ spans) (suc j) all = fits-at limit spans j all.1

fits-set : (limit : ℕ) (spans : List (Option Interval)) (j : ℕ) (new : Option Interval) → AllByRecursion (IsSpanUpTo limit) spans → IsSpanUpTo limit new → AllByRecursion (IsSpanUpTo limit) (set spans j new)
fits-set limit [] j new all own = tt
fits-set limit (s ∷ spans) zero new all own = (own, all.1)
fits-set limit (s ∷ spans) (suc j) new all own = (all.0, fits-set limit spans j new all.1 own)

pub spans-fit : (table : Table) (limit : ℕ) (e : Edge) → IsEdge table limit e → (spans : List (Option Interval)) (finish : Interval) → finish ≡ edge_finish table e → (more : List (Option Interval)) →
    more ≡ set spans e.job (hull_with (get_or spans e.job None) finish) → AllByRecursion (IsSpanUpTo limit) spans → AllByRecursion (IsSpanUpTo limit) more
spans-fit table limit e edge spans finish finish-is more more-is all =
    let late : finish.hi ≤ limit = subst (λ (s : Interval). s.hi ≤ limit) (sym finish-is) edge.latest in
    subst (AllByRecursion (IsSpanUpTo limit)) (sym more-is)
    (fits-set limit spans e.job (hull_with (get_or spans e.job None) finish) all (fits-with limit (get_or spans e.job None) finish (fits-at limit spans e.job all) late))

pub no-spans-fit : (table : Table) (limit : ℕ) (spans : List (Option Interval)) → spans ≡ spans_by table [] → AllByRecursion (IsSpanUpTo limit) spans
no-spans-fit table limit spans is = subst (AllByRecursion (IsSpanUpTo limit)) (sym (is ∙ spans-none table)) (by (length table.jobs))
  where
    by : (n : ℕ) → AllByRecursion (IsSpanUpTo limit) (replicate n None)
    by zero = tt
    by (suc n) = (tt, by n)
