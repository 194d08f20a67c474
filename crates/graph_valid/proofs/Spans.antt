-- The intervals and marks of the jobs keep clauses K9 and K10.
use Rattle.std.proofs.Common.{◌≡◌, ℕ, zero, suc, ◌+◌, ◌<◌, ◌≤◌, Bool, true, false, cond, List, [], ◌∷◌, ◌++◌, length, map, refl, sym, ap, ◌∙◌, subst, arith, Option, Some, None}
use Rattle.std.specs.Prelude.{IsTrue, IsSomeAnd, slice_get, nat_le, ◌==◌, ◌&&◌, flat_map, unwrap_or}
use Rattle.std.specs.List.{AllByRecursion, enumerate_from, list_all, range_with_len}
use Rattle.std.specs.Option.{option_map_or}
use Rattle.std.proofs.lemmas.Bool.{eq-eqb, leb-true, le-leb}
use Rattle.std.proofs.lemmas.List.Elements.{All-get_or}
use Rattle.lists.proofs.Elements.{all-append, recursion_weaker}
use Rattle.lists.specs.Numbers.{numbers_below}
use Rattle.job_model.specs.Table.{Table, IsTable, IsJob, job_at, no_job}
use Rattle.sag_time.specs.Interval.{Interval, hull, covers}
use Rattle.sag_time.proofs.IntervalLaws.{covers-itself, covers-trans, covers-hull_left, covers-hull_right}
use Rattle.lists.specs.Zipped.{zip_with}
use Rattle.start_windows.specs.declared.StartWindow.{StartWindow}
use Rattle.start_windows.proofs.WindowFacts.{IsWindow, IsWindow-from}
use Rattle.sag_step.specs.State.{SystemState, first_core}
use Rattle.sag_step.specs.Next.{finish_interval}
use Rattle.sag_step.specs.Offers.{Offer, offers}
use Rattle.sag_step.specs.Group.{group, placed, places_of}
use Rattle.graph_check.specs.Entries.{JobEntry, is_ok_mark}
use Rattle.graph_check.specs.Certificate.{Block}
use Rattle.graph_check.specs.Certificate as checked
use Rattle.graph_check.specs.Valid.{IsInSpan, IsMarkedRight}
use Rattle.sag_graph.specs.declared.edge.Edge.{Edge}
use Rattle.sag_graph.specs.Levels.{edge_to}
use Rattle.sag_graph.specs.Spans.{edge_finish}
use Rattle.sag_graph.specs.Lines.{line_of_job, is_in_time, mark_of}
use Rattle.graph_valid.proofs.FromRoot.{FoundedLevel, edges_of, level_after, levels_after, span_over, span_of}
use Rattle.graph_valid.proofs.Lists.{all-map}
use Rattle.graph_valid.proofs.Levels.{IsOfferOf, are_offers}
use Rattle.graph_valid.proofs.Blocks.{edge_entry, block_of}

-- ---- edges

-- a job of the table that starts in a window in order
pub record IsStart (table : Table) (job : ℕ) (window : StartWindow) : Type 0 where
  pub is_job : job < length table.jobs
  pub in_order : window.est ≤ window.lst

abbrev pub edge_starts : Table → Edge → Type 0
edge_starts table e = IsStart table e.job e.window

pub zipped : (Q : ℕ → StartWindow → Type 0) (os : List Offer) (states : List SystemState) → AllByRecursion (λ (o : Offer). Q o.job o.window) os →
    AllByRecursion (λ (e : Edge). Q e.job e.window) (zip_with edge_to os (places_of states os))
zipped Q [] states all = tt
zipped Q (o ∷ os) states all = (all.0, zipped Q os (placed states o.next) all.1)

pub offer_starts : (table : Table) (before : List SystemState) (o : Offer) → IsOfferOf table before o → IsStart table o.job o.window
offer_starts table before o of =
    let parent = of.parent in
    let is : IsWindow table parent.set.members parent.ends (first_core parent) o.job o.window =
    IsWindow-from table parent.set.members parent.ends (first_core parent) o.job o.window of.window in
    record { is_job = is.is_job; in_order = is.in_order }

pub edges_start : (table : Table) (n : ℕ) (before : List SystemState) → AllByRecursion (edge_starts table) (edges_of (levels_after table n before))
edges_start table zero before = tt
edges_start table (suc n) before =
    all-append (edge_starts table) (level_after table before).edges (edges_of (levels_after table n (group (offers table before))))
    (zipped (IsStart table) (offers table before) []
    (recursion_weaker (IsOfferOf table before) (λ (o : Offer). IsStart table o.job o.window) (offer_starts table before) (offers table before) (are_offers table before)))
    (edges_start table n (group (offers table before)))

-- what the checker reads of all edges
map-append : {X Y : Type 0} (f : X → Y) (xs ys : List X) → map f (xs ++ ys) ≡ map f xs ++ map f ys
map-append f [] ys = refl
map-append f (x ∷ xs) ys = ap (λ zs. f x ∷ zs) (map-append f xs ys)

pub all_edges_are : (ls : List FoundedLevel) → flat_map (λ (b : Block). b.edges) (map block_of ls) ≡ map edge_entry (edges_of ls)
all_edges_are [] = refl
all_edges_are (l ∷ ls) = ap (λ es. map edge_entry l.edges ++ es) (all_edges_are ls) ∙ sym (map-append edge_entry l.edges (edges_of ls))

-- ---- spans

module _ (table : Table) (is_table : IsTable table) where
  pub finish_order : (e : Edge) → edge_starts table e → (edge_finish table e).lo ≤ (edge_finish table e).hi
  finish_order e starts =
      let job : IsJob (job_at table e.job) = All-get_or IsJob table.jobs e.job no_job starts.is_job is_table.jobs in
      omega (arith, starts.in_order, job.costs)

  -- a condition that hulls keep holds of each span
  module _ (P : Interval → Type 0) (hulls : (a b : Interval) → P a → P b → P (hull a b)) where
    span-keeps : (j : ℕ) (es : List Edge) → AllByRecursion (λ e. P (edge_finish table e)) es → P (record { lo = 0; hi = 0 }) → P (unwrap_or (span_over table j es) (record { lo = 0; hi = 0 }))
    span-keeps j [] all none = none
    span-keeps j (e ∷ es) all none = at (e.job == j) (span_over table j es) (span-keeps j es all.1 none)
      where
        at : (b : Bool) (o : Option Interval) → P (unwrap_or o (record { lo = 0; hi = 0 })) →
            P (unwrap_or (cond b (Some (option_map_or (hull (edge_finish table e)) o (edge_finish table e))) o) (record { lo = 0; hi = 0 }))
        at true None rest = all.0
        at true (Some s) rest = hulls (edge_finish table e) s all.0 rest
        at false o rest = rest

    pub spans-keep : (es : List Edge) → AllByRecursion (λ e. P (edge_finish table e)) es → P (record { lo = 0; hi = 0 }) → (js : List ℕ) → AllByRecursion P (map (span_of table es) js)
    spans-keep es all none [] = tt
    spans-keep es all none (j ∷ js) = (span-keeps j es all none, spans-keep es all none js)

  pub spans_in_order : (es : List Edge) → AllByRecursion (edge_starts table) es → (js : List ℕ) → AllByRecursion (λ (s : Interval). s.lo ≤ s.hi) (map (span_of table es) js)
  spans_in_order es all js =
      spans-keep (λ s. s.lo ≤ s.hi) (λ a b one other. omega (arith, one, other)) es
      (recursion_weaker (edge_starts table) (λ e. (edge_finish table e).lo ≤ (edge_finish table e).hi) finish_order es all) (omega arith) js

-- the job's span covers this interval
abbrev Spanned : Table → List Edge → ℕ → Interval → Type 0
Spanned table es j x = IsSomeAnd (span_over table j es) (λ s. IsTrue (covers s x))

wider_span : (table : Table) (d : Edge) (es : List Edge) (j : ℕ) (x : Interval) → Spanned table es j x → Spanned table (d ∷ es) j x
wider_span table d es j x spanned = at (d.job == j) (span_over table j es) spanned
  where
    at : (b : Bool) (o : Option Interval) → IsSomeAnd o (λ s. IsTrue (covers s x)) →
        IsSomeAnd (cond b (Some (option_map_or (hull (edge_finish table d)) o (edge_finish table d))) o) (λ s. IsTrue (covers s x))
    at b None spanned = absurd spanned
    at true (Some s) spanned = covers-trans (hull (edge_finish table d) s) s x (covers-hull_right (edge_finish table d) s) spanned
    at false (Some s) spanned = spanned

own_span : (table : Table) (e : Edge) (es : List Edge) → Spanned table (e ∷ es) e.job (edge_finish table e)
own_span table e es = at (e.job == e.job) (eq-eqb e.job e.job refl) (span_over table e.job es)
  where
    at : (b : Bool) → b ≡ true → (o : Option Interval) →
        IsSomeAnd (cond b (Some (option_map_or (hull (edge_finish table e)) o (edge_finish table e))) o) (λ s. IsTrue (covers s (edge_finish table e)))
    at true is None = covers-itself (edge_finish table e)
    at true is (Some s) = covers-hull_left (edge_finish table e) s
    at false is o = cc

pub all_spanned : (table : Table) (es : List Edge) → AllByRecursion (λ e. Spanned table es e.job (edge_finish table e)) es
all_spanned table [] = tt
all_spanned table (e ∷ es) = (
  own_span table e es,
  recursion_weaker (λ (d : Edge). Spanned table es d.job (edge_finish table d)) (λ (d : Edge). Spanned table (e ∷ es) d.job (edge_finish table d))
      (λ d spanned. wider_span table e es d.job (edge_finish table d) spanned) es (all_spanned table es),
)

-- ---- the jobs' entries

abbrev pub job_entry : Table → ℕ × Interval → JobEntry
job_entry table s = record { span = s.1; mark = mark_of (is_in_time table s) }

abbrev pub job_entries : Table → ℕ → List Interval → List JobEntry
job_entries table a xs = map (job_entry table) (enumerate_from a xs)

pub is_ok-mark_if : (b : Bool) → is_ok_mark (mark_of b) ≡ b
is_ok-mark_if true = refl
is_ok-mark_if false = refl

pub job-lines : (table : Table) (xs : List Interval) (a : ℕ) → map checked.job_line (enumerate_from a (job_entries table a xs)) ≡ map (line_of_job table) (enumerate_from a xs)
job-lines table [] a = refl
job-lines table (x ∷ xs) a = ap (λ ls. line_of_job table (a, x) ∷ ls) (job-lines table xs (a + 1))

pub marks_right : (table : Table) (xs : List Interval) (a : ℕ) → AllByRecursion (IsMarkedRight table) (enumerate_from a (job_entries table a xs))
marks_right table [] a = tt
marks_right table (x ∷ xs) a =
    let deadline = (job_at table a).deadline in (
      (
        λ ok. leb-true x.hi deadline (sym (is_ok-mark_if (nat_le x.hi deadline)) ∙ ok),
        λ early. is_ok-mark_if (nat_le x.hi deadline) ∙ le-leb x.hi deadline early,
      ),
      marks_right table xs (a + 1),
    )

pub verdict_right : (table : Table) (xs : List Interval) (a : ℕ) → list_all (is_in_time table) (enumerate_from a xs) ≡ list_all (λ (s : JobEntry). is_ok_mark s.mark) (job_entries table a xs)
verdict_right table [] a = refl
verdict_right table (x ∷ xs) a = λ i. sym (is_ok-mark_if (is_in_time table (a, x))) i && verdict_right table xs (a + 1) i

pub length-entries : (table : Table) (xs : List Interval) (a : ℕ) → length (job_entries table a xs) ≡ length xs
length-entries table [] a = refl
length-entries table (x ∷ xs) a = ap suc (length-entries table xs (a + 1))

pub entries_in_order : (table : Table) (xs : List Interval) (a : ℕ) → AllByRecursion (λ (s : Interval). s.lo ≤ s.hi) xs → AllByRecursion (λ (s : JobEntry). s.span.lo ≤ s.span.hi) (job_entries table a xs)
entries_in_order table [] a all = tt
entries_in_order table (x ∷ xs) a all = (all.0, entries_in_order table xs (a + 1) all.1)

entry-at : (table : Table) (f : ℕ → Interval) (n a j : ℕ) → j < n → slice_get (job_entries table a (map f (range_with_len a n))) j ≡ Some (job_entry table (a + j, f (a + j)))
entry-at table f zero a j below = absurd (omega (arith, below))
entry-at table f (suc n) a zero below = let same : a ≡ a + 0 = omega arith in ap (λ k. Some (job_entry table (k, f k))) same
entry-at table f (suc n) a (suc j) below =
    let same : a + 1 + j ≡ a + suc j = omega arith in
    entry-at table f n (a + 1) j (omega (arith, below)) ∙ ap (λ k. Some (job_entry table (k, f k))) same

unwrapped : (x : Interval) (o : Option Interval) → IsSomeAnd o (λ s. IsTrue (covers s x)) → covers (unwrap_or o (record { lo = 0; hi = 0 })) x ≡ true
unwrapped x None spanned = absurd spanned
unwrapped x (Some s) spanned = spanned

-- each edge's finish is within its job's span
pub in_spans : (table : Table) (es : List Edge) → AllByRecursion (edge_starts table) es →
    AllByRecursion (IsInSpan table (job_entries table 0 (map (span_of table es) (numbers_below (length table.jobs))))) (map edge_entry es)
in_spans table es starts =
    all-map (IsInSpan table (job_entries table 0 (map (span_of table es) (numbers_below (length table.jobs))))) edge_entry es (both es starts (all_spanned table es))
  where
    one : (e : Edge) → edge_starts table e → Spanned table es e.job (edge_finish table e) → IsInSpan table (job_entries table 0 (map (span_of table es) (numbers_below (length table.jobs)))) (edge_entry e)
    one e start spanned =
        let same : 0 + e.job ≡ e.job = omega arith in
        let here : slice_get (job_entries table 0 (map (span_of table es) (numbers_below (length table.jobs)))) e.job ≡ Some (job_entry table (e.job, span_of table es e.job)) =
        entry-at table (span_of table es) (length table.jobs) 0 e.job start.is_job ∙ ap (λ k. Some (job_entry table (k, span_of table es k))) same in
        subst (λ o. IsSomeAnd o (λ (s : JobEntry). IsTrue (covers s.span (finish_interval table e.job e.window)))) (sym here) (unwrapped (edge_finish table e) (span_over table e.job es) spanned)

    both : (ds : List Edge) → AllByRecursion (edge_starts table) ds → AllByRecursion (λ e. Spanned table es e.job (edge_finish table e)) ds →
        AllByRecursion (λ e. IsInSpan table (job_entries table 0 (map (span_of table es) (numbers_below (length table.jobs)))) (edge_entry e)) ds
    both [] starts spanned = tt
    both (d ∷ ds) starts spanned = (one d starts.0 spanned.0, both ds starts.1 spanned.1)
