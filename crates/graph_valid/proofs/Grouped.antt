-- Offers that are grouped: who appended each state, and which state takes each offer.
use Rattle.std.proofs.Common.{◌≡◌, ℕ, zero, suc, ◌+◌, arith, Bool, true, false, cond, List, [], ◌∷◌, ◌++◌, map, refl, sym, ap, ◌∙◌, subst}
use Rattle.std.specs.Prelude.{IsTrue, IsSomeAnd, slice_get, not, ◌||◌}
use Rattle.std.specs.List.{AllByRecursion, AllZip, fold, list_any}
use Rattle.std.specs.Cmp.Lexicographic.{pointwise}
use Rattle.std.proofs.lemmas.Bool.{and_parts}
use Rattle.std.proofs.lemmas.List.{append_assoc, append-nil}
use Rattle.job_model.specs.Table.{Table}
use Rattle.sag_time.specs.Interval.{touches}
use Rattle.lists.specs.Zipped.{zip_with}
use Rattle.sag_step.specs.State.{SystemState}
use Rattle.sag_step.specs.Shape.{IsState}
use Rattle.sag_step.specs.Widen.{same_set, core_intervals, states_touch, state_hull, widens}
use Rattle.sag_step.specs.Offers.{Offer}
use Rattle.sag_step.specs.Group.{placed, place_of, places_of}
use Rattle.sag_step.specs.Laws as state_law
use Rattle.sag_graph.specs.declared.edge.Edge.{Edge}
use Rattle.sag_graph.specs.Levels.{edge_to}
use Rattle.graph_valid.proofs.FromRoot.{founders}

-- ---- states with the offers that appended them

pub record Founded : Type 0 where
  pub founder : Offer
  pub state : SystemState

abbrev pub placed_founded : List Founded → Offer → List Founded
placed_founded [] o = record { founder = o; state = o.next } ∷ []
placed_founded (f ∷ fs) o = cond (states_touch f.state o.next) (record { founder = f.founder; state = state_hull f.state o.next } ∷ fs) (f ∷ placed_founded fs o)

abbrev pub group_founded : List Founded → List Offer → List Founded
group_founded fs [] = fs
group_founded fs (o ∷ os) = group_founded (placed_founded fs o) os

abbrev pub states_of : List Founded → List SystemState
states_of fs = map (λ f. f.state) fs

abbrev pub founders_of : List Founded → List Offer
founders_of fs = map (λ f. f.founder) fs

abbrev pub nexts : List Offer → List SystemState
nexts os = map (λ o. o.next) os

states-placed : (fs : List Founded) (o : Offer) → states_of (placed_founded fs o) ≡ placed (states_of fs) o.next
states-placed [] o = refl
states-placed (f ∷ fs) o = at (states_touch f.state o.next) (states-placed fs o)
  where
    at : (b : Bool) → states_of (placed_founded fs o) ≡ placed (states_of fs) o.next →
        states_of (cond b (record { founder = f.founder; state = state_hull f.state o.next } ∷ fs) (f ∷ placed_founded fs o))
        ≡ cond b (state_hull f.state o.next ∷ states_of fs) (f.state ∷ placed (states_of fs) o.next)
    at true rest = refl
    at false rest = ap (λ ss. f.state ∷ ss) rest

pub states-grouped : (fs : List Founded) (os : List Offer) → states_of (group_founded fs os) ≡ fold placed (states_of fs) (nexts os)
states-grouped fs [] = refl
states-grouped fs (o ∷ os) = states-grouped (placed_founded fs o) os ∙ ap (λ ss. fold placed ss (nexts os)) (states-placed fs o)

founders-placed : (fs : List Founded) (o : Offer) →
    founders_of (placed_founded fs o) ≡ founders_of fs ++ cond (list_any (λ s. states_touch s o.next) (states_of fs)) [] (o ∷ [])
founders-placed [] o = refl
founders-placed (f ∷ fs) o = at (states_touch f.state o.next) (founders-placed fs o)
  where
    at : (b : Bool) → founders_of (placed_founded fs o) ≡ founders_of fs ++ cond (list_any (λ s. states_touch s o.next) (states_of fs)) [] (o ∷ []) →
        founders_of (cond b (record { founder = f.founder; state = state_hull f.state o.next } ∷ fs) (f ∷ placed_founded fs o))
        ≡ f.founder ∷ (founders_of fs ++ cond (b || list_any (λ s. states_touch s o.next) (states_of fs)) [] (o ∷ []))
    at true rest = ap (λ xs. f.founder ∷ xs) (sym (append-nil (founders_of fs)))
    at false rest = ap (λ xs. f.founder ∷ xs) rest

-- the offers that append a state are the founders of what is grouped
pub founders-grouped : (fs : List Founded) (os : List Offer) → founders_of (group_founded fs os) ≡ founders_of fs ++ founders (states_of fs) os
founders-grouped fs [] = sym (append-nil (founders_of fs))
founders-grouped fs (o ∷ os) =
    founders-grouped (placed_founded fs o) os
    ∙ (λ i. founders-placed fs o i ++ founders (states-placed fs o i) os)
    ∙ append_assoc (founders_of fs) (cond (list_any (λ s. states_touch s o.next) (states_of fs)) [] (o ∷ [])) (founders (placed (states_of fs) o.next) os)
    ∙ ap (λ xs. founders_of fs ++ xs) (at (list_any (λ s. states_touch s o.next) (states_of fs)))
  where
    at : (b : Bool) → cond b [] (o ∷ []) ++ founders (placed (states_of fs) o.next) os
        ≡ cond b (founders (placed (states_of fs) o.next) os) (o ∷ founders (placed (states_of fs) o.next) os)
    at true = refl
    at false = refl

-- ---- what grouping keeps of each state with its founder

module _ (P : Offer → SystemState → Type 0) (Q : Offer → Type 0) (new : (o : Offer) → Q o → P o o.next)
    (hulls : (f : Offer) (s : SystemState) (o : Offer) → P f s → Q o → same_set s.set o.next.set ≡ true → P f (state_hull s o.next)) where
  abbrev each : Founded → Type 0
  each f = P f.founder f.state

  all-placed : (fs : List Founded) (o : Offer) → Q o → AllByRecursion each fs → AllByRecursion each (placed_founded fs o)
  all-placed [] o one all = (new o one, tt)
  all-placed (f ∷ fs) o one all = at (states_touch f.state o.next) refl (all-placed fs o one all.1)
    where
      at : (b : Bool) → states_touch f.state o.next ≡ b → AllByRecursion each (placed_founded fs o) →
          AllByRecursion each (cond b (record { founder = f.founder; state = state_hull f.state o.next } ∷ fs) (f ∷ placed_founded fs o))
      at true touch rest =
          let same = (and_parts (same_set f.state.set o.next.set) (pointwise touches (core_intervals f.state) (core_intervals o.next)) touch).0 in
          (hulls f.founder f.state o all.0 one same, all.1)
      at false touch rest = (all.0, rest)

  pub all-grouped : (fs : List Founded) (os : List Offer) → AllByRecursion Q os → AllByRecursion each fs → AllByRecursion each (group_founded fs os)
  all-grouped fs [] ones all = all
  all-grouped fs (o ∷ os) ones all = all-grouped (placed_founded fs o) os ones.1 (all-placed fs o ones.0 all)

-- ---- which state takes an offer

-- what is used of states
pub record HullLaws : Type 0 where
  pub hull_is_state : state_law.HullIsState
  pub comparable : state_law.ShapedAreComparable
  pub hull_is_least : state_law.StateHullIsLeast
  pub reflexive : state_law.WideningIsReflexive
  pub transitive : state_law.WideningIsTransitive

-- what is used of the root, of steps and of hulls
pub record StepLaws : Type 0 where
  pub root_is_shaped : state_law.RootIsShaped
  pub next_is_state : state_law.NextIsState
  pub next_is_up_to : state_law.NextIsUpTo
  pub finish_is_up_to : state_law.FinishIsUpTo
  pub hull_is_up_to : state_law.HullIsUpTo
  pub hulls : HullLaws

module _ (laws : HullLaws) (table : Table) (m : ℕ) where
  -- the state of that number is wider than s
  abbrev pub IsWiderAt : List SystemState → ℕ → SystemState → Type 0
  IsWiderAt states p s = IsSomeAnd (slice_get states p) (λ t. IsTrue (widens t s))

  abbrev pub AreStates : List SystemState → Type 0
  AreStates states = AllByRecursion (IsState table m) states

  touch_set : (s o : SystemState) → states_touch s o ≡ true → same_set s.set o.set ≡ true
  touch_set s o touch = (and_parts (same_set s.set o.set) (pointwise touches (core_intervals s) (core_intervals o)) touch).0

  hull-left : (s o : SystemState) → IsState table m s → IsState table m o → states_touch s o ≡ true → widens (state_hull s o) s ≡ true
  hull-left s o one other touch = (laws.hull_is_least s o (laws.comparable table m s o one other) (touch_set s o touch)).0

  hull-right : (s o : SystemState) → IsState table m s → IsState table m o → states_touch s o ≡ true → widens (state_hull s o) o ≡ true
  hull-right s o one other touch = (laws.hull_is_least s o (laws.comparable table m s o one other) (touch_set s o touch)).1

  states-kept : (states : List SystemState) (o : SystemState) → AreStates states → IsState table m o → AreStates (placed states o)
  states-kept [] o all one = (one, tt)
  states-kept (s ∷ states) o all one = at (states_touch s o) refl (states-kept states o all.1 one)
    where
      at : (b : Bool) → states_touch s o ≡ b → AreStates (placed states o) → AreStates (cond b (state_hull s o ∷ states) (s ∷ placed states o))
      at true touch rest = (laws.hull_is_state table m s o all.0 one (touch_set s o touch), all.1)
      at false touch rest = (all.0, rest)

  -- the state that takes an offer is wider than it
  takes : (states : List SystemState) (o : SystemState) → AreStates states → IsState table m o → IsWiderAt (placed states o) (place_of states o) o
  takes [] o all one = laws.reflexive o
  takes (s ∷ states) o all one = at (states_touch s o) refl (takes states o all.1 one)
    where
      at : (b : Bool) → states_touch s o ≡ b → IsWiderAt (placed states o) (place_of states o) o →
          IsWiderAt (cond b (state_hull s o ∷ states) (s ∷ placed states o)) (cond (not b) (1 + place_of states o) 0) o
      at true touch rest = hull-right s o all.0 one touch
      at false touch rest = let next : suc (place_of states o) ≡ 1 + place_of states o = omega arith in subst (λ n. IsWiderAt (s ∷ placed states o) n o) next rest

  -- no state gets narrower, or another number
  stays_wider : (states : List SystemState) (o : SystemState) (p : ℕ) (x : SystemState) → AreStates states → IsState table m o → IsWiderAt states p x → IsWiderAt (placed states o) p x
  stays_wider [] o p x all one wide = absurd wide
  stays_wider (s ∷ states) o p x all one wide = at (states_touch s o) refl (λ p wide. stays_wider states o p x all.1 one wide) p wide
    where
      at : (b : Bool) → states_touch s o ≡ b → ((p : ℕ) → IsWiderAt states p x → IsWiderAt (placed states o) p x) → (p : ℕ) → IsWiderAt (s ∷ states) p x → IsWiderAt (cond b (state_hull s o ∷ states) (s ∷ placed states o)) p x
      at true touch rest zero wide = laws.transitive (state_hull s o) s x (hull-left s o all.0 one touch) wide
      at true touch rest (suc p) wide = wide
      at false touch rest zero wide = wide
      at false touch rest (suc p) wide = rest p wide

  stays_wider-all : (os : List Offer) (states : List SystemState) (p : ℕ) (x : SystemState) → AreStates states → AllByRecursion (λ (o : Offer). IsState table m o.next) os →
      IsWiderAt states p x → IsWiderAt (fold placed states (nexts os)) p x
  stays_wider-all [] states p x all ones wide = wide
  stays_wider-all (o ∷ os) states p x all ones wide =
      stays_wider-all os (placed states o.next) p x (states-kept states o.next all ones.0) ones.1 (stays_wider states o.next p x all ones.0 wide)

  -- each offer's edge leads to a state that is wider than its next
  pub targets : (os : List Offer) (states : List SystemState) → AreStates states → AllByRecursion (λ (o : Offer). IsState table m o.next) os →
      AllZip (λ (e : Edge) (o : Offer). IsWiderAt (fold placed states (nexts os)) e.to o.next) (zip_with edge_to os (places_of states os)) os
  targets [] states all ones = tt
  targets (o ∷ os) states all ones =
      let kept = states-kept states o.next all ones.0 in (
        stays_wider-all os (placed states o.next) (place_of states o.next) o.next kept ones.1 (takes states o.next all ones.0),
        targets os (placed states o.next) kept ones.1,
      )
