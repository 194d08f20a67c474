-- The levels of the graph, counted and from the root on, are the same.
use Rattle.std.proofs.Common.{◌≡◌, ℕ, zero, suc, ◌+◌, ◌<◌, Bool, true, false, cond, List, [], ◌∷◌, ◌++◌, length, map, refl, sym, ap, ◌∙◌, subst, arith, append_assoc, append-nil, Some}
use Rattle.std.specs.Prelude.{slice_get, ◌==◌, ◌||◌, not, find}
use Rattle.std.specs.List.{list_any}
use Rattle.std.proofs.lemmas.Bool.{or_parts, eq-eqb, ne_eqb, false≢true}
use Rattle.std.proofs.lemmas.List.{length-map}
use Rattle.job_model.specs.Table.{Table}
use Rattle.lists.specs.Zipped.{zip_with}
use Rattle.sag_step.specs.State.{SystemState, root}
use Rattle.sag_step.specs.Widen.{states_touch, state_hull}
use Rattle.sag_step.specs.Offers.{Offer, offers}
use Rattle.sag_step.specs.Group.{group, placed, place_of, places_of}
use Rattle.sag_graph.specs.declared.edge.Edge.{Edge}
use Rattle.sag_graph.specs.Levels.{Level, edge_to, edges_into, next_level, level_at}
use Rattle.sag_graph.specs.Graph.{levels_up_to}
use Rattle.sag_graph.specs.Spans.{edges_up_to}
use Rattle.graph_valid.proofs.FromRoot.{FoundedLevel, founders, level_after, levels_after, edges_of}
use Rattle.graph_valid.proofs.Grouped.{Founded, group_founded, states-grouped, founders-grouped}

-- ---- the edges into a level

pub edges_same : (os : List Offer) (states : List SystemState) → edges_into states os ≡ zip_with edge_to os (places_of states os)
edges_same [] states = refl
edges_same (o ∷ os) states = ap (λ es. edge_to o (place_of states o.next) ∷ es) (edges_same os (placed states o.next))

-- a level without its founders
abbrev pub plain : FoundedLevel → Level
plain l = record { states = l.states; edges = l.edges }

pub next_is : (table : Table) (before : List SystemState) → next_level table before ≡ plain (level_after table before)
unfolding next_level
next_is table before = λ i. record { states = group (offers table before); edges = edges_same (offers table before) [] i }

-- ---- counted levels

abbrev pub states_after : Table → List SystemState → ℕ → List SystemState
states_after table before zero = before
states_after table before (suc k) = group (offers table (states_after table before k))

pub shift : (table : Table) (before : List SystemState) (k : ℕ) → states_after table (group (offers table before)) k ≡ states_after table before (suc k)
shift table before zero = refl
shift table before (suc k) = ap (λ ss. group (offers table ss)) (shift table before k)

pub one_more : (table : Table) (k : ℕ) (before : List SystemState) → levels_after table (suc k) before ≡ levels_after table k before ++ level_after table (states_after table before k) ∷ []
one_more table zero before = refl
one_more table (suc k) before =
    ap (λ ls. level_after table before ∷ ls)
    (one_more table k (group (offers table before)) ∙ ap (λ ss. levels_after table k (group (offers table before)) ++ level_after table ss ∷ []) (shift table before k))

module _ (table : Table) (m : ℕ) where
  abbrev pub start : List SystemState
  start = root table m ∷ []

  pub level_zero : level_at table m zero ≡ record { states = start; edges = [] }
  unfolding level_at
  level_zero = refl

  level_next : (k : ℕ) → level_at table m (suc k) ≡ next_level table (level_at table m k).states
  unfolding level_at
  level_next k = refl

  pub states_at : (k : ℕ) → (level_at table m k).states ≡ states_after table start k
  states_at zero = ap (λ (l : Level). l.states) level_zero
  states_at (suc k) = ap (λ (l : Level). l.states) (level_next k ∙ next_is table (level_at table m k).states) ∙ ap (λ ss. group (offers table ss)) (states_at k)

  pub level_is : (k : ℕ) → level_at table m (suc k) ≡ plain (level_after table (states_after table start k))
  level_is k = level_next k ∙ next_is table (level_at table m k).states ∙ ap (λ ss. plain (level_after table ss)) (states_at k)

  pub level_is_after : (k : ℕ) → level_at table m (suc k) ≡ plain (level_after table (level_at table m k).states)
  level_is_after k = level_next k ∙ next_is table (level_at table m k).states

  map-append : (xs ys : List FoundedLevel) → map plain (xs ++ ys) ≡ map plain xs ++ map plain ys
  map-append [] ys = refl
  map-append (x ∷ xs) ys = ap (λ zs. plain x ∷ zs) (map-append xs ys)

  pub levels_are : (k : ℕ) → levels_up_to table m k ≡ level_at table m zero ∷ map plain (levels_after table k start)
  levels_are zero = refl
  levels_are (suc k) =
      (λ i. levels_are k i ++ level_is k i ∷ [])
      ∙ ap (λ ls. level_at table m zero ∷ ls) (sym (map-append (levels_after table k start) (level_after table (states_after table start k) ∷ [])) ∙ ap (map plain) (sym (one_more table k start)))

  edges-append : (xs : List FoundedLevel) (l : FoundedLevel) → edges_of (xs ++ l ∷ []) ≡ edges_of xs ++ l.edges
  edges-append [] l = append-nil l.edges
  edges-append (x ∷ xs) l = ap (λ es. x.edges ++ es) (edges-append xs l) ∙ sym (append_assoc x.edges (edges_of xs) l.edges)

  edges_next : (k : ℕ) → edges_up_to table m (suc k) ≡ edges_up_to table m k ++ (level_at table m (suc k)).edges
  unfolding edges_up_to
  edges_next k = refl

  edges_none : edges_up_to table m zero ≡ []
  unfolding edges_up_to
  edges_none = refl

  pub edges_are : (k : ℕ) → edges_up_to table m k ≡ edges_of (levels_after table k start)
  edges_are zero = edges_none
  edges_are (suc k) =
      edges_next k ∙ (λ i. edges_are k i ++ (level_is k i).edges)
      ∙ sym (edges-append (levels_after table k start) (level_after table (states_after table start k))) ∙ ap edges_of (sym (one_more table k start))

-- ---- who appended a state

touch_place : (states : List SystemState) (o : SystemState) → list_any (λ s. states_touch s o) states ≡ true → (place_of states o < length states) × (length (placed states o) ≡ length states)
touch_place [] o any = absurd (false≢true any)
touch_place (s ∷ states) o any = at (states_touch s o) any (touch_place states o)
  where
    at : (b : Bool) → (b || list_any (λ s. states_touch s o) states) ≡ true →
        (list_any (λ s. states_touch s o) states ≡ true → (place_of states o < length states) × (length (placed states o) ≡ length states)) →
        (cond (not b) (1 + place_of states o) 0 < suc (length states)) × (length (cond b (state_hull s o ∷ states) (s ∷ placed states o)) ≡ suc (length states))
    at true any rest = (omega arith, refl)
    at false any rest = let r = rest any in (omega (arith, r.0), ap suc r.1)

new_place : (states : List SystemState) (o : SystemState) → list_any (λ s. states_touch s o) states ≡ false → (place_of states o ≡ length states) × (length (placed states o) ≡ length states + 1)
new_place [] o any = (refl, refl)
new_place (s ∷ states) o any =
    let parts = or_parts (states_touch s o) (list_any (λ s. states_touch s o) states) any in
    let rest = new_place states o parts.1 in
    let place : cond (not (states_touch s o)) (1 + place_of states o) 0 ≡ 1 + place_of states o = ap (λ b. cond (not b) (1 + place_of states o) 0) parts.0 in
    let put : length (cond (states_touch s o) (state_hull s o ∷ states) (s ∷ placed states o)) ≡ suc (length (placed states o)) = ap (λ b. length (cond b (state_hull s o ∷ states) (s ∷ placed states o))) parts.0 in
    (omega (arith, place, rest.0), omega (arith, put, rest.1))

-- the first edge to a state is that of the offer that appended it
pub first_edge : (os : List Offer) (states : List SystemState) (n : ℕ) (f : Offer) → slice_get (founders states os) n ≡ Some f →
    find (λ (e : Edge). e.to == length states + n) (edges_into states os) ≡ Some (edge_to f (length states + n))
first_edge [] states n f is = cc
first_edge (o ∷ os) states n f is = at (list_any (λ s. states_touch s o.next) states) refl is (first_edge os (placed states o.next))
  where
    skip : (i : ℕ) → (place_of states o.next ≡ i → ⊥) → find (λ (e : Edge). e.to == i) (edges_into states (o ∷ os)) ≡ find (λ (e : Edge). e.to == i) (edges_into (placed states o.next) os)
    skip i other = ap (λ b. cond b (Some (edge_to o (place_of states o.next))) (find (λ (e : Edge). e.to == i) (edges_into (placed states o.next) os))) (ne_eqb (place_of states o.next) i other)

    take : (i : ℕ) → place_of states o.next ≡ i → find (λ (e : Edge). e.to == i) (edges_into states (o ∷ os)) ≡ Some (edge_to o i)
    take i same =
        ap (λ b. cond b (Some (edge_to o (place_of states o.next))) (find (λ (e : Edge). e.to == i) (edges_into (placed states o.next) os))) (eq-eqb (place_of states o.next) i same)
        ∙ ap (λ k. Some (edge_to o k)) same

    new : (n : ℕ) → list_any (λ s. states_touch s o.next) states ≡ false → slice_get (o ∷ founders (placed states o.next) os) n ≡ Some f →
        ((n : ℕ) (f : Offer) → slice_get (founders (placed states o.next) os) n ≡ Some f →
        find (λ (e : Edge). e.to == length (placed states o.next) + n) (edges_into (placed states o.next) os) ≡ Some (edge_to f (length (placed states o.next) + n))) →
        find (λ (e : Edge). e.to == length states + n) (edges_into states (o ∷ os)) ≡ Some (edge_to f (length states + n))
    new zero any is rest =
        let place = new_place states o.next any in
        let same : o ≡ f = cc in
        take (length states + 0) (omega (arith, place.0)) ∙ ap (λ (x : Offer). Some (edge_to x (length states + 0))) same
    new (suc n) any is rest =
        let place = new_place states o.next any in
        let number : length (placed states o.next) + n ≡ length states + suc n = omega (arith, place.1) in
        skip (length states + suc n) (λ same. omega (arith, same, place.0))
        ∙ subst (λ i. find (λ (e : Edge). e.to == i) (edges_into (placed states o.next) os) ≡ Some (edge_to f i)) number (rest n f is)

    at : (b : Bool) → list_any (λ s. states_touch s o.next) states ≡ b →
        slice_get (cond b (founders (placed states o.next) os) (o ∷ founders (placed states o.next) os)) n ≡ Some f →
        ((n : ℕ) (f : Offer) → slice_get (founders (placed states o.next) os) n ≡ Some f →
        find (λ (e : Edge). e.to == length (placed states o.next) + n) (edges_into (placed states o.next) os) ≡ Some (edge_to f (length (placed states o.next) + n))) →
        find (λ (e : Edge). e.to == length states + n) (edges_into states (o ∷ os)) ≡ Some (edge_to f (length states + n))
    at true any is rest =
        let place = touch_place states o.next any in
        let number : length (placed states o.next) + n ≡ length states + n = omega (arith, place.1) in
        skip (length states + n) (λ same. omega (arith, same, place.0))
        ∙ subst (λ i. find (λ (e : Edge). e.to == i) (edges_into (placed states o.next) os) ≡ Some (edge_to f i)) number (rest n f is)
    at false any is rest = new n any is rest

-- each state has one
pub founders_long : (table : Table) (before : List SystemState) → length (founders [] (offers table before)) ≡ length (group (offers table before))
founders_long table before =
    let fs = group_founded [] (offers table before) in
    ap (λ (os : List Offer). length os) (sym (founders-grouped [] (offers table before)))
    ∙ length-map fs (λ (f : Founded). f.founder) ∙ sym (length-map fs (λ (f : Founded). f.state))
    ∙ ap (λ (ss : List SystemState). length ss) (states-grouped [] (offers table before))
