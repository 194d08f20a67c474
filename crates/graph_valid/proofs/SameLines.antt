-- The lines of the graph, counted and from the root on, are the same.
use Rattle.std.proofs.Common.{◌≡◌, ℕ, zero, suc, ◌+◌, Bool, true, false, cond, List, [], ◌∷◌, ◌++◌, length, map, filter, min, max, refl, sym, ap, ◌∙◌, subst, arith, append_assoc, Option, Some, None}
use Rattle.std.specs.Prelude.{slice_get, flat_map, find, unwrap_or, ◌==◌}
use Rattle.std.specs.List.{enumerate_from, fold, list_all}
use Rattle.std.specs.Option.{option_map_or}
use Rattle.lists.specs.Numbers.{numbers_below}
use Rattle.job_model.specs.Table.{Table}
use Rattle.sag_time.specs.Interval.{Interval, hull}
use Rattle.lists.specs.Zipped.{zip_with}
use Rattle.sag_step.specs.State.{SystemState, root}
use Rattle.sag_step.specs.Offers.{Offer, offers}
use Rattle.cert_text.specs.declared.line.Pair.{Pair}
use Rattle.cert_text.specs.declared.line.CertLine.TheVariants as line
use Rattle.sag_graph.specs.declared.edge.Edge.{Edge}
use Rattle.sag_graph.specs.Levels.{edge_to}
use Rattle.sag_graph.specs.Spans as built
use Rattle.sag_graph.specs.Spans.{hull_with, edges_up_to, spans_by, edge_finish}
use Rattle.sag_graph.specs.Graph.{graph_of, levels_up_to}
use Rattle.sag_graph.specs.Lines as text
use Rattle.sag_graph.specs.Lines.{origin_of, no_edge, no_span, certificate_lines, numbered_spans, line_of_edge, line_of_job, is_in_time, mark_of}
use Rattle.graph_valid.proofs.FromRoot.{level_after, levels_after, levels, graph_edges, span_over, span_of, spans}
use Rattle.graph_valid.proofs.FromRootLines.{zipped_pairs, founded_line, founded_lines, graph_lines}
use Rattle.graph_valid.proofs.SameLevels.{plain, edges_same, first_edge, founders_long, level_zero, levels_are, edges_are}

-- ---- spans

abbrev hulls : List Interval → Option Interval
hulls [] = None
hulls (x ∷ xs) = Some (option_map_or (hull x) (hulls xs) x)

hull-assoc : (a b c : Interval) → hull (hull a b) c ≡ hull a (hull b c)
hull-assoc a b c =
    let lows : min (min a.lo b.lo) c.lo ≡ min a.lo (min b.lo c.lo) = omega arith in
    let highs : max (max a.hi b.hi) c.hi ≡ max a.hi (max b.hi c.hi) = omega arith in
    λ i. record { lo = lows i; hi = highs i }

fold-some : (xs : List Interval) (s : Interval) → fold hull_with (Some s) xs ≡ Some (option_map_or (hull s) (hulls xs) s)
fold-some [] s = refl
fold-some (x ∷ xs) s = fold-some xs (hull s x) ∙ ap Some (at (hulls xs))
  where
    at : (o : Option Interval) → option_map_or (hull (hull s x)) o (hull s x) ≡ hull s (option_map_or (hull x) o x)
    at None = refl
    at (Some y) = hull-assoc s x y

fold-none : (xs : List Interval) → fold hull_with None xs ≡ hulls xs
fold-none [] = refl
fold-none (x ∷ xs) = fold-some xs x

own-hulls : (table : Table) (j : ℕ) (es : List Edge) → hulls (map (edge_finish table) (filter (λ e. e.job == j) es)) ≡ span_over table j es
own-hulls table j [] = refl
own-hulls table j (e ∷ es) = at (e.job == j) (own-hulls table j es)
  where
    at : (b : Bool) → hulls (map (edge_finish table) (filter (λ (e : Edge). e.job == j) es)) ≡ span_over table j es →
        hulls (map (edge_finish table) (cond b (e ∷ filter (λ (e : Edge). e.job == j) es) (filter (λ (e : Edge). e.job == j) es)))
        ≡ cond b (Some (option_map_or (hull (edge_finish table e)) (span_over table j es) (edge_finish table e))) (span_over table j es)
    at true rest = ap (λ o. Some (option_map_or (hull (edge_finish table e)) o (edge_finish table e))) rest
    at false rest = rest

pub span_same : (table : Table) (es : List Edge) (j : ℕ) → built.span_of table es j ≡ span_over table j es
span_same table es j = fold-none (map (edge_finish table) (filter (λ e. e.job == j) es)) ∙ own-hulls table j es

spans_by_is : (table : Table) (es : List Edge) → spans_by table es ≡ map (built.span_of table es) (numbers_below (length table.jobs))
unfolding spans_by
spans_by_is table es = refl

unwrapped : (table : Table) (es : List Edge) (js : List ℕ) → map (λ s. unwrap_or s no_span) (map (built.span_of table es) js) ≡ map (span_of table es) js
unwrapped table es [] = refl
unwrapped table es (j ∷ js) = λ i. unwrap_or (span_same table es j i) no_span ∷ unwrapped table es js i

-- ---- states

pairs-zip : (lo hi : List ℕ) → map {B = Pair} (λ (s : Interval). record { lo = s.lo; hi = s.hi }) (zip_with {C = Interval} (λ l h. record { lo = l; hi = h }) lo hi) ≡ zip_with (λ l h. record { lo = l; hi = h }) lo hi
pairs-zip [] hi = refl
pairs-zip (l ∷ lo) [] = refl
pairs-zip (l ∷ lo) (h ∷ hi) = ap (λ ps. record { lo = l; hi = h } ∷ ps) (pairs-zip lo hi)

pub pairs_same : (s : SystemState) → text.pairs_of s ≡ zipped_pairs s
pairs_same s = pairs-zip s.low s.high

states_same : (es : List Edge) (fs : List Offer) (ss : List SystemState) (a : ℕ) → length fs ≡ length ss →
    ((n : ℕ) (f : Offer) → slice_get fs n ≡ Some f → find (λ (e : Edge). e.to == a + n) es ≡ Some (edge_to f (a + n))) →
    map (text.line_of_state es) (enumerate_from a ss) ≡ zip_with founded_line fs ss
states_same es [] [] a long each = refl
states_same es [] (s ∷ ss) a long each = absurd (omega (arith, long))
states_same es (f ∷ fs) [] a long each = absurd (omega (arith, long))
states_same es (f ∷ fs) (s ∷ ss) a long each =
    let here : a + 0 ≡ a = omega arith in
    let found : find (λ (e : Edge). e.to == a) es ≡ Some (edge_to f a) = subst (λ k. find (λ (e : Edge). e.to == k) es ≡ Some (edge_to f k)) here (each 0 f refl) in
    let origin : origin_of es a ≡ edge_to f a = ap (λ o. unwrap_or o no_edge) found in
    let rest = states_same es fs ss (a + 1) (omega (arith, long)) (λ n g is.
    let number : a + suc n ≡ a + 1 + n = omega arith in
    subst (λ k. find (λ (e : Edge). e.to == k) es ≡ Some (edge_to g k)) number (each (suc n) g is)) in
    λ i. line.State (origin i).from (origin i).job (pairs_same s i) (text.ends_of s) s.last.members ∷ rest i

-- ---- levels

level_same : (table : Table) (before : List SystemState) (b : ℕ) → text.level_lines (suc b, plain (level_after table before)) ≡ founded_lines (suc b, level_after table before)
level_same table before b =
    let l = level_after table before in
    let states : map (text.line_of_state l.edges) (enumerate_from 0 l.states) ≡ zip_with founded_line l.founders l.states =
    states_same l.edges l.founders l.states 0 (founders_long table before) (λ n f is.
    ap (λ (es : List Edge). find (λ (e : Edge). e.to == 0 + n) es) (sym (edges_same (offers table before) [])) ∙ first_edge (offers table before) [] n f is) in
    ap (λ ls. line.Level (suc b) (length l.states) ∷ ls ++ map line_of_edge l.edges) states

levels_same : (table : Table) (n b : ℕ) (before : List SystemState) →
    flat_map text.level_lines (enumerate_from (suc b) (map plain (levels_after table n before))) ≡ flat_map founded_lines (enumerate_from (suc b) (levels_after table n before))
levels_same table zero b before = refl
levels_same table (suc n) b before =
    let next : suc b + 1 ≡ suc (suc b) = omega arith in
    let more = levels_after table n (level_after table before).states in
    let rest : flat_map text.level_lines (enumerate_from (suc b + 1) (map plain more)) ≡ flat_map founded_lines (enumerate_from (suc b + 1) more) =
    ap (λ a. flat_map text.level_lines (enumerate_from a (map plain more))) next ∙ levels_same table n (suc b) (level_after table before).states
    ∙ ap (λ a. flat_map founded_lines (enumerate_from a more)) (sym next) in
    λ i. level_same table before b i ++ rest i

-- ---- the whole

pub lines_same : (table : Table) (m : ℕ) → certificate_lines table (graph_of table m) ≡ graph_lines table m
lines_same table m =
    let n = length table.jobs in
    let start : List SystemState = root table m ∷ [] in
    let below : flat_map text.level_lines (enumerate_from 0 (levels_up_to table m n)) ≡ line.Level 0 1 ∷ line.Root (zipped_pairs (root table m)) ∷ flat_map founded_lines (enumerate_from 1 (levels table m)) =
    ap (λ ls. flat_map text.level_lines (enumerate_from 0 ls)) (levels_are table m n)
    ∙ (λ i. text.level_lines (0, level_zero table m i) ++ levels_same table n 0 start i)
    ∙ ap (λ ps. line.Level 0 1 ∷ line.Root ps ∷ flat_map founded_lines (enumerate_from 1 (levels table m))) (pairs_same (root table m)) in
    let numbered : numbered_spans (spans_by table (edges_up_to table m n)) ≡ enumerate_from 0 (spans table m) =
    ap (λ es. numbered_spans (spans_by table es)) (edges_are table m n) ∙ ap numbered_spans (spans_by_is table (graph_edges table m))
    ∙ ap (enumerate_from 0) (unwrapped table (graph_edges table m) (numbers_below n)) in
    let level_part = flat_map founded_lines (enumerate_from 1 (levels table m)) in
    let job_part = map (line_of_job table) (enumerate_from 0 (spans table m)) in
    let ending = line.Verdict (mark_of (list_all (is_in_time table) (enumerate_from 0 (spans table m)))) ∷ line.End ∷ [] in
    (λ i. (line.Head n m ∷ [] ++ below i) ++ (map (line_of_job table) (numbered i) ++ line.Verdict (mark_of (list_all (is_in_time table) (numbered i))) ∷ line.End ∷ []))
    ∙ ap (λ ls. line.Head n m ∷ line.Level 0 1 ∷ line.Root (zipped_pairs (root table m)) ∷ ls) (sym (append_assoc level_part job_part ending))
