-- The lines of states, edges and jobs, one by one.
use Rattle.std.proofs.Common.{◌≡◌, ◌≢◌, ℕ, suc, zero, Bool, true, false, cond, List, [], ◌∷◌, ◌++◌, ◌+◌, ◌-◌, ◌<◌, ◌≤◌, drop, get_or, length, map, set, refl, sym, ap, ◌∙◌, subst, arith, add-one}
use Rattle.std.specs.Prelude.{◌==◌, find, nat_eq, Option, Some, None, unwrap_or}
use Rattle.std.specs.List.{enumerate_from, range_with_len}
use Rattle.std.proofs.Math.ListN.{replicate}
use Rattle.std.proofs.lemmas.List.{ext_get_or, get_or-map, get_or-set_same, get_or-set_other, length-map, length-set}
use Rattle.std.proofs.lemmas.List.FromFn.{get_or-map-range_with_len, length-range_with_len}
use Rattle.lists.specs.Numbers.{numbers_below}
use Rattle.job_model.specs.Table.{Table}
use Rattle.sag_time.specs.Interval.{Interval}
use Rattle.sag_step.specs.State.{HeldState, SystemState, states_of}
use Rattle.cert_text.specs.declared.line.CertLine.{CertLine}
use Rattle.cert_text.specs.declared.line.CertLine.TheVariants as line
use Rattle.sag_graph.specs.declared.edge.Edge.{Edge}
use Rattle.sag_graph.specs.Lines.{level_lines, line_of_edge, line_of_job, line_of_state, no_edge, no_span, origin_of}
use Rattle.graph_builder.specs.declared.state_line.Origin.{Origin}
use Rattle.graph_builder.specs.Writing.{edge_lines, job_lines, line_by, origin_at, state_lines}
use Rattle.graph_builder.proofs.TextLemmas.{dropped}

-- an element at its place is the first of those from there on
pub drop_here : {X : Type 0} (xs : List X) (k : ℕ) (x : X) → k < length xs → x ≡ get_or xs k x → drop k xs ≡ x ∷ drop (k + 1) xs
drop_here xs k x lt is = from xs k x lt ∙ ap (λ y. y ∷ drop (suc k) xs) (sym is) ∙ ap (λ n. x ∷ drop n xs) (sym (add-one k))
  where
    from : {Y : Type 0} (ys : List Y) (k : ℕ) (d : Y) → k < length ys → drop k ys ≡ get_or ys k d ∷ drop (suc k) ys
    from [] k d lt = absurd (omega arith)
    from (y ∷ ys) zero d lt = refl
    from (y ∷ ys) (suc k) d lt = from ys k d (omega arith)

-- an element and those behind it, by the place behind it
pub drop_back : {X : Type 0} (xs : List X) (i : ℕ) (x : X) → 0 < i → i ≤ length xs → x ≡ get_or xs (i - 1) x → drop (i - 1) xs ≡ x ∷ drop i xs
drop_back xs i x some within is =
    let back : i - 1 + 1 ≡ i = omega (arith, some) in
    let lt : i - 1 < length xs = omega (arith, some, within) in
    drop_here xs (i - 1) x lt is ∙ ap (λ n. x ∷ drop n xs) back

-- ---- states

pub state_at : (hs : List HeldState) (i : ℕ) (x : HeldState) → i < length hs → x ≡ get_or hs i x → (i < length (states_of hs)) × (x.state ≡ get_or (states_of hs) i x.state)
state_at hs i x lt is =
    (omega (arith, lt, length-map hs (λ (h : HeldState). h.state)), sym (get_or-map (λ (h : HeldState). h.state) hs i x x.state lt ∙ ap (λ (h : HeldState). h.state) (sym is)))

pub state_alone : (hs : List HeldState) (x : HeldState) → length hs ≡ 1 → x ≡ get_or hs 0 x → states_of hs ≡ x.state ∷ []
state_alone [] x one is = absurd (omega (arith, one))
state_alone (y ∷ []) x one is = ap (λ (h : HeldState). h.state ∷ []) (sym is)
state_alone (y ∷ z ∷ hs) x one is = absurd (omega (arith, one))

-- ---- a level above level 0

pub block_is : (level number count : ℕ) (hs : List HeldState) (edges : List Edge) → 0 < level → number ≡ level → count ≡ length hs →
    line.Level number count ∷ (state_lines edges 0 (states_of hs) ++ edge_lines edges) ≡ level_lines (level, record { states = states_of hs; edges = edges })
block_is zero number count hs edges some number-is count-is = absurd (omega (arith, some))
block_is (suc k) number count hs edges some number-is count-is =
    let whole : count ≡ length (states_of hs) = count-is ∙ sym (length-map hs (λ (h : HeldState). h.state)) in
    λ i. line.Level (number-is i) (whole i) ∷ (state_lines edges 0 (states_of hs) ++ edge_lines edges)

-- ---- states in order

pub states_next : (edges : List Edge) (states : List SystemState) (i : ℕ) (s : SystemState) (o : Origin) → i < length states → s ≡ get_or states i s → o ≡ origin_at edges i →
    state_lines edges i (drop i states) ≡ line_by o s ∷ state_lines edges (i + 1) (drop (i + 1) states)
states_next edges states i s o lt is own =
    ap (state_lines edges i) (drop_here states i s lt is) ∙ ap (λ x. line_by x s ∷ state_lines edges (i + 1) (drop (i + 1) states)) (sym own)

pub states_past : (edges : List Edge) (states : List SystemState) (i : ℕ) → length states ≤ i → state_lines edges i (drop i states) ≡ []
states_past edges states i past = ap (state_lines edges i) (dropped i states past)

-- ---- edges

pub edges_next : (edges : List Edge) (i : ℕ) (e : Edge) → i < length edges → e ≡ get_or edges i e → edge_lines (drop i edges) ≡ line_of_edge e ∷ edge_lines (drop (i + 1) edges)
edges_next edges i e lt is = ap edge_lines (drop_here edges i e lt is)

pub edges_past : (edges : List Edge) (i : ℕ) → length edges ≤ i → edge_lines (drop i edges) ≡ []
edges_past edges i past = ap edge_lines (dropped i edges past)

-- ---- jobs

-- the intervals of the jobs from number j on
abbrev pub known_from : ℕ → List (Option Interval) → List (ℕ × Interval)
known_from j spans = enumerate_from j (map (λ s. unwrap_or s no_span) spans)

pub known_next : (spans : List (Option Interval)) (j : ℕ) (o : Option Interval) (s : Interval) → j < length spans → o ≡ get_or spans j o → s ≡ unwrap_or o no_span →
    known_from j (drop j spans) ≡ (j, s) ∷ known_from (j + 1) (drop (j + 1) spans)
known_next spans j o s lt is own = ap (known_from j) (drop_here spans j o lt is) ∙ ap (λ x. (j, x) ∷ known_from (j + 1) (drop (j + 1) spans)) (sym own)

pub known_past : (spans : List (Option Interval)) (j : ℕ) → length spans ≤ j → known_from j (drop j spans) ≡ []
known_past spans j past = ap (known_from j) (dropped j spans past)

pub jobs_next : (table : Table) (spans : List (Option Interval)) (j : ℕ) (o : Option Interval) (s : Interval) → j < length spans → o ≡ get_or spans j o → s ≡ unwrap_or o no_span →
    job_lines table j (drop j spans) ≡ line_of_job table (j, s) ∷ job_lines table (j + 1) (drop (j + 1) spans)
jobs_next table spans j o s lt is own =
    ap (job_lines table j) (drop_here spans j o lt is) ∙ ap (λ x. line_of_job table (j, x) ∷ job_lines table (j + 1) (drop (j + 1) spans)) (sym own)

pub jobs_past : (table : Table) (spans : List (Option Interval)) (j : ℕ) → length spans ≤ j → job_lines table j (drop j spans) ≡ []
jobs_past table spans j past = ap (job_lines table j) (dropped j spans past)

-- ---- origins

abbrev no_origin : Origin
no_origin = record { parent = 0; job = 0 }

-- no edge leads to any state
pub origins_none : (n : ℕ) → replicate n no_origin ≡ map (origin_at []) (numbers_below n)
origins_none n = by 0 n
  where
    by : (a n : ℕ) → replicate n no_origin ≡ map (origin_at []) (range_with_len a n)
    by a zero = refl
    by a (suc n) = ap (λ l. no_origin ∷ l) (by (a + 1) n)

-- an edge in front of others
origin-first : (e : Edge) (edges : List Edge) (i : ℕ) →
    origin_at (e ∷ edges) i ≡ cond (e.to == i) (record { parent = e.from; job = e.job }) (origin_at edges i)
origin-first e edges i = by (e.to == i) (find (λ (f : Edge). f.to == i) edges)
  where
    by : (b : Bool) (rest : Option Edge) →
        ◌≡◌ {A = Origin} (record { parent = (unwrap_or (cond b (Some e) rest) no_edge).from; job = (unwrap_or (cond b (Some e) rest) no_edge).job })
        (cond b (record { parent = e.from; job = e.job }) (record { parent = (unwrap_or rest no_edge).from; job = (unwrap_or rest no_edge).job }))
    by true rest = refl
    by false rest = refl

origins-at : (edges : List Edge) (n k : ℕ) → k < n → get_or (map (origin_at edges) (numbers_below n)) k no_origin ≡ origin_at edges k
origins-at edges n k below = get_or-map-range_with_len (origin_at edges) 0 n k k no_origin below (zero-add k)
  where
    zero-add : (m : ℕ) → 0 + m ≡ m
    zero-add m = omega arith

pub origins-length : (edges : List Edge) (n : ℕ) → length (map (origin_at edges) (numbers_below n)) ≡ n
origins-length edges n = length-map (numbers_below n) (origin_at edges) ∙ length-range_with_len 0 n

pub origin-read : (edges : List Edge) (n k : ℕ) (xs : List Origin) (o : Origin) → k < n → xs ≡ map (origin_at edges) (numbers_below n) → o ≡ get_or xs k no_origin → o ≡ origin_at edges k
origin-read edges n k xs o below is here = here ∙ ap (λ l. get_or l k no_origin) is ∙ origins-at edges n k below

-- it is noted for the state that it leads to
pub origins_more : (e : Edge) (edges : List Edge) (n : ℕ) (xs : List Origin) → xs ≡ map (origin_at edges) (numbers_below n) →
    set xs e.to (record { parent = e.from; job = e.job }) ≡ map (origin_at (e ∷ edges)) (numbers_below n)
origins_more e edges n xs is =
    ext_get_or no_origin (set xs e.to own) (map (origin_at (e ∷ edges)) (numbers_below n))
    (length-set xs e.to own ∙ count ∙ sym (origins-length (e ∷ edges) n)) each
  where
    own : Origin
    own = record { parent = e.from; job = e.job }

    count : length xs ≡ n
    count = ap length is ∙ origins-length edges n

    each : (j : ℕ) → j < length (set xs e.to own) → get_or (set xs e.to own) j no_origin ≡ get_or (map (origin_at (e ∷ edges)) (numbers_below n)) j no_origin
    each j lt =
        let below : j < n = omega (arith, length-set xs e.to own, count, lt) in
        by (e.to == j) refl below ∙ sym (origins-at (e ∷ edges) n j below ∙ origin-first e edges j)
      where
        nat-same : (a b : ℕ) → nat_eq a b ≡ true → a ≡ b
        nat-same a b e = grind arith

        nat-apart : (a b : ℕ) → nat_eq a b ≡ false → b ≢ a
        nat-apart a b e = grind arith

        by : (b : Bool) → (e.to == j) ≡ b → j < n → get_or (set xs e.to own) j no_origin ≡ cond (e.to == j) own (origin_at edges j)
        by true p below =
            let same = nat-same e.to j p in
            let within : e.to < length xs = omega (arith, count, below, same) in
            subst (λ k. get_or (set xs e.to own) k no_origin ≡ own) same (get_or-set_same xs e.to own no_origin within)
            ∙ ap (λ b. cond b own (origin_at edges j)) (sym p)
        by false p below =
            get_or-set_other xs e.to j own no_origin (nat-apart e.to j p) ∙ ap (λ l. get_or l j no_origin) is ∙ origins-at edges n j below
            ∙ ap (λ b. cond b own (origin_at edges j)) (sym p)
