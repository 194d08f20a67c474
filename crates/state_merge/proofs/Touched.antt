-- The state that takes an offer, among those of its set and among all.
use Rattle.std.proofs.Common.{◌≡◌, ℕ, suc, zero, Bool, true, false, cond, List, [], ◌∷◌, ◌++◌, ◌+◌, ◌<◌, length, set, get_or, refl, sym, ap, ◌∙◌, subst, arith}
use Rattle.std.specs.Prelude.{nat_eq, nat_lt, position, find, Option, Some, None, if◌then◌else◌}
use Rattle.std.specs.List.{AllByRecursion, position_from, position_or_len}
use Rattle.std.specs.Cmp.Lexicographic.{pointwise, same_text}
use Rattle.std.proofs.Math.Seq.{map-set_same}
use Rattle.std.proofs.lemmas.List.{get_or-map, length-map, map-set}
use Rattle.std.proofs.lemmas.List.Quantifiers.{position-Some}
use Rattle.std.proofs.lemmas.Iterator.Adapters.{position_from-zero}
use Rattle.sag_step.specs.State.{SystemState, HeldState}
use Rattle.sag_step.specs.Group.{placed, place_of}
use Rattle.sag_step.specs.Widen.{AreComparable, states_touch, state_hull, same_set}
use Rattle.job_sets.specs.Subset.{Subset}
use Rattle.state_merge.specs.SameSet.{is_set, numbers_from, numbers_of, sets_of}
use Rattle.sag_step.specs.State.{states_of}
use Rattle.state_merge.specs.Index.{AreComparableTo, touching}
use Rattle.state_merge.proofs.SetLemmas.{first-true, set-itself}

-- read only past the end of a list of states
abbrev pub no_state : SystemState
no_state = record { set = record { size = 0; members = [] }; low = []; high = []; ends = []; last = record { size = 0; members = [] } }

-- ---- what taking does to the states

pub placed-at : (states : List SystemState) (o : SystemState) (k : ℕ) → k < length states → states_touch (get_or states k no_state) o ≡ true →
    ((j : ℕ) → j < k → states_touch (get_or states j no_state) o ≡ false) → placed states o ≡ set states k (state_hull (get_or states k no_state) o)
placed-at [] o k lt here before = absurd (omega arith)
placed-at (s ∷ states) o zero lt here before = ap (λ b. if b then state_hull s o ∷ states else s ∷ placed states o) here
placed-at (s ∷ states) o (suc k) lt here before =
    ap (λ b. if b then state_hull s o ∷ states else s ∷ placed states o) (before 0 (omega arith))
    ∙ ap (λ l. s ∷ l) (placed-at states o k (omega arith) here (λ j below. before (suc j) (omega arith)))

none-head : (test : SystemState → Bool) (s : SystemState) (states : List SystemState) (i : ℕ) → position_from test i (s ∷ states) ≡ None →
    (test s ≡ false) × (position_from test (i + 1) states ≡ None)
none-head test s states i e = by (test s) refl e
  where
    by : (b : Bool) → test s ≡ b → cond b (Some i) (position_from test (i + 1) states) ≡ None → (test s ≡ false) × (position_from test (i + 1) states ≡ None)
    by true p q = absurd (cc)
    by false p q = (p, q)

placed-none : (states : List SystemState) (o : SystemState) (i : ℕ) → position_from (λ s. states_touch s o) i states ≡ None → placed states o ≡ states ++ o ∷ []
placed-none [] o i e = refl
placed-none (s ∷ states) o i e =
    let none = none-head (λ x. states_touch x o) s states i e in
    ap (λ b. if b then state_hull s o ∷ states else s ∷ placed states o) none.0 ∙ ap (λ l. s ∷ l) (placed-none states o (i + 1) none.1)

-- no state touches it: it comes last
pub placed-last : (states : List SystemState) (o : SystemState) → position (λ s. states_touch s o) states ≡ None → placed states o ≡ states ++ o ∷ []
placed-last states o e = placed-none states o 0 (sym (position_from-zero (λ s. states_touch s o) states) ∙ e)

-- the number that the search finds, or else the number of states
pub place-found : (states : List SystemState) (o : SystemState) (k : ℕ) → position (λ s. states_touch s o) states ≡ Some k → place_of states o ≡ k
place-found states o k e = by (nat_lt (position_or_len (λ s. states_touch s o) states) (length states)) e
  where
    by : (b : Bool) → cond b (Some (position_or_len (λ s. states_touch s o) states)) None ≡ Some k → position_or_len (λ s. states_touch s o) states ≡ k
    by true q = cc
    by false q = absurd (cc)

pub place-last : (states : List SystemState) (o : SystemState) → position (λ s. states_touch s o) states ≡ None → place_of states o ≡ length states
place-last states o e = from states 0 (sym (position_from-zero (λ s. states_touch s o) states) ∙ e)
  where
    from : (ss : List SystemState) (i : ℕ) → position_from (λ s. states_touch s o) i ss ≡ None → position_or_len (λ s. states_touch s o) ss ≡ length ss
    from [] i e = refl
    from (s ∷ ss) i e =
        let none = none-head (λ x. states_touch x o) s ss i e in
        let rest = from ss (i + 1) none.1 in
        rw none.0 (omega (arith, rest))

-- ---- a state that touches the offer is one of the offer's set

touch-set : (s o : SystemState) → AreComparable s o → states_touch s o ≡ true → is_set o.set s.set ≡ true
touch-set s o comparable e =
    let same : pointwise nat_eq s.set.members o.set.members ≡ true = first-true (same_set s.set o.set) _ e in
    let members : s.set.members ≡ o.set.members = same_text s.set.members o.set.members (sym same) in
    let one : s.set ≡ o.set = λ i. record { size = comparable.one_size i; members = members i } in
    subst (λ x. is_set o.set x ≡ true) (sym one) (set-itself o.set)

comparable-at : (states : List SystemState) (o : SystemState) (k : ℕ) → AllByRecursion (λ x. AreComparable x o) states → k < length states →
    AreComparable (get_or states k no_state) o
comparable-at [] o k all lt = absurd (omega arith)
comparable-at (x ∷ states) o zero all lt = all.0
comparable-at (x ∷ states) o (suc k) all lt = comparable-at states o k all.1 (omega arith)

touching-at : (states : List SystemState) (o : SystemState) (k : ℕ) → k < length states → touching states o k ≡ states_touch (get_or states k no_state) o
touching-at [] o k lt = absurd (omega arith)
touching-at (x ∷ states) o zero lt = refl
touching-at (x ∷ states) o (suc k) lt = touching-at states o k (omega arith)

-- ---- among the states of the set

find-numbers : (states : List SystemState) (i : ℕ) (set : Subset) (p : ℕ → Bool) (test : SystemState → Bool) →
    ((k : ℕ) → k < length states → p (i + k) ≡ test (get_or states k no_state)) →
    ((k : ℕ) → k < length states → test (get_or states k no_state) ≡ true → is_set set (get_or states k no_state).set ≡ true) →
    find p (numbers_from i set (sets_of states)) ≡ position_from test i states
find-numbers [] i set p test own apart = refl
find-numbers (s ∷ states) i set p test own apart =
    let here : p i ≡ test s = ap p (add-zero i) ∙ own 0 (omega arith) in
    let rest = find-numbers states (i + 1) set p test (λ k lt. ap p (shift i k) ∙ own (suc k) (omega arith)) (λ k lt. apart (suc k) (omega arith)) in
    by (is_set set s.set) (test s) here (apart 0 (omega arith)) (numbers_from (i + 1) set (sets_of states)) (position_from test (i + 1) states) rest
  where
    add-zero : (n : ℕ) → n ≡ n + 0
    add-zero n = omega arith

    shift : (n k : ℕ) → n + 1 + k ≡ n + suc k
    shift n k = omega arith

    by : (b c : Bool) → p i ≡ c → (c ≡ true → b ≡ true) → (numbers : List ℕ) (later : Option ℕ) → find p numbers ≡ later →
        find p (if b then i ∷ numbers else numbers) ≡ cond c (Some i) later
    by true true e h numbers later r = ap (λ x. cond x (Some i) (find p numbers)) e
    by true false e h numbers later r = ap (λ x. cond x (Some i) (find p numbers)) e ∙ r
    by false true e h numbers later r = absurd (let f = h refl in cc)
    by false false e h numbers later r = r

-- The first state of the offer's set that touches it is the first of all states that does.
pub first-found : (states : List SystemState) (o : SystemState) → AreComparableTo states o →
    find (touching states o) (numbers_of o.set states) ≡ position (λ s. states_touch s o) states
unfolding numbers_of
first-found states o comparable =
    find-numbers states 0 o.set (touching states o) (λ s. states_touch s o)
    (λ k lt. ap (touching states o) (zero-add k) ∙ touching-at states o k lt)
    (λ k lt e. touch-set (get_or states k no_state) o (comparable-at states o k comparable.each lt) e)
    ∙ sym (position_from-zero (λ s. states_touch s o) states)
  where
    zero-add : (n : ℕ) → 0 + n ≡ n
    zero-add n = omega arith

-- ---- the state in memory that takes the offer

module _ (held : List HeldState) (now : List SystemState) (o : SystemState) (k : ℕ) (x : HeldState)
    (view : states_of held ≡ now) (comparable : AreComparableTo now o) (found : position (λ s. states_touch s o) now ≡ Some k) (is : x ≡ get_or held k x) where
  count : length now ≡ length held
  count = ap length (sym view) ∙ length-map held (λ (h : HeldState). h.state)

  at-place : (k < length now) × (get_or now k no_state ≡ x.state)
  at-place =
      let at = position-Some (λ s. states_touch s o) now k no_state found in
      let below : k < length held = omega (arith, at.0, count) in
      (at.0, ap (λ l. get_or l k no_state) (sym view) ∙ get_or-map (λ (h : HeldState). h.state) held k x no_state below ∙ ap (λ (h : HeldState). h.state) (sym is))

  pub taker-comparable : AreComparable x.state o
  taker-comparable = subst (λ s. AreComparable s o) at-place.1 (comparable-at now o k comparable.each at-place.0)

  pub taker-set : same_set x.state.set o.set ≡ true
  taker-set =
      let at = position-Some (λ s. states_touch s o) now k no_state found in
      first-true (same_set x.state.set o.set) _ (subst (λ s. states_touch s o ≡ true) at-place.1 at.1)

  -- it becomes the hull
  pub taken : (new : HeldState) → new.state ≡ state_hull x.state o → states_of (set held k new) ≡ placed now o
  taken new hull =
      let at = position-Some (λ s. states_touch s o) now k no_state found in
      map-set (λ (h : HeldState). h.state) held k new
      ∙ ap (λ l. set l k new.state) view
      ∙ ap (set now k) (hull ∙ ap (λ s. state_hull s o) (sym at-place.1))
      ∙ sym (placed-at now o k at.0 at.1 at.2)

  -- the sets stay
  pub sets-stay : (new : HeldState) → new.state ≡ state_hull x.state o → sets_of (states_of (set held k new)) ≡ sets_of (states_of held)
  sets-stay new hull =
      let here : get_or (states_of held) k no_state ≡ x.state = ap (λ l. get_or l k no_state) view ∙ at-place.1 in
      ap sets_of (map-set (λ (h : HeldState). h.state) held k new)
      ∙ map-set_same (λ (s : SystemState). s.set) (states_of held) k new.state no_state (ap (λ (s : SystemState). s.set) hull ∙ ap (λ (s : SystemState). s.set) (sym here))
