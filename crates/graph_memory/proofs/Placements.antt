-- Where offers are placed: sets stay, and each edge leads to a state that has the set of its offer.
use Rattle.std.proofs.Common.{◌≡◌, ℕ, zero, suc, ◌⊎◌, inl, inr, true, false, List, [], ◌∷◌, map, Some, refl, ap, ◌∙◌, arith}
use Rattle.std.specs.Prelude.{fold, slice_get}
use Rattle.std.specs.List.{AllByRecursion}
use Rattle.std.specs.Cmp.Lexicographic.{pointwise}
use Rattle.std.proofs.lemmas.Bool.{and_parts, cond-true, cond-false, cases_Bool}
use Rattle.std.proofs.lemmas.Option.{none-some, same_Some}
use Rattle.sag_time.specs.Interval.{touches}
use Rattle.sag_step.specs.State.{SystemState}
use Rattle.sag_step.specs.Widen.{same_set, states_touch, state_hull, core_intervals}
use Rattle.sag_step.specs.Group.{Offer, placed, place_of}
use Rattle.sag_step.proofs.Widening.{same_members}
use Rattle.sag_graph.specs.declared.edge.Edge.{Edge}
use Rattle.sag_graph.specs.Levels.{edges_into}

pub members_of_touch : (a b : SystemState) → states_touch a b ≡ true → a.set.members ≡ b.set.members
members_of_touch a b h = same_members a.set.members b.set.members (and_parts (same_set a.set b.set) (pointwise touches (core_intervals a) (core_intervals b)) h).0

-- ---- one offer

module _ (o x : SystemState) (xs : List SystemState) where
  pub placed-first : states_touch x o ≡ true → placed (x ∷ xs) o ≡ state_hull x o ∷ xs
  placed-first e = cond-true (states_touch x o) (state_hull x o ∷ xs) (x ∷ placed xs o) e

  pub placed-later : states_touch x o ≡ false → placed (x ∷ xs) o ≡ x ∷ placed xs o
  placed-later e = cond-false (states_touch x o) (state_hull x o ∷ xs) (x ∷ placed xs o) e

  pub place-first : states_touch x o ≡ true → place_of (x ∷ xs) o ≡ 0
  place-first e = rw e refl

  pub place-later : states_touch x o ≡ false → place_of (x ∷ xs) o ≡ suc (place_of xs o)
  place-later e = rw e (omega arith)

-- the state at a place keeps its set
pub placed-keeps : (xs : List SystemState) (o : SystemState) (i : ℕ) (s : SystemState) → slice_get xs i ≡ Some s →
    (r : SystemState) × (slice_get (placed xs o) i ≡ Some r) × (r.set.members ≡ s.set.members)
placed-keeps [] o i s e = absurd (none-some s e)
placed-keeps (x ∷ xs) o zero s e = by (cases_Bool (states_touch x o))
  where
    by : (states_touch x o ≡ true) ⊎ (states_touch x o ≡ false) → (r : SystemState) × (slice_get (placed (x ∷ xs) o) 0 ≡ Some r) × (r.set.members ≡ s.set.members)
    by (inl touch) = (state_hull x o, ap (λ ys. slice_get ys 0) (placed-first o x xs touch), ap (λ (y : SystemState). y.set.members) (same_Some x s e))
    by (inr apart) = (x, ap (λ ys. slice_get ys 0) (placed-later o x xs apart), ap (λ (y : SystemState). y.set.members) (same_Some x s e))
placed-keeps (x ∷ xs) o (suc i) s e = by (cases_Bool (states_touch x o)) (placed-keeps xs o i s e)
  where
    by : (states_touch x o ≡ true) ⊎ (states_touch x o ≡ false) → (r : SystemState) × (slice_get (placed xs o) i ≡ Some r) × (r.set.members ≡ s.set.members) →
        (r : SystemState) × (slice_get (placed (x ∷ xs) o) (suc i) ≡ Some r) × (r.set.members ≡ s.set.members)
    by (inl touch) r = (s, ap (λ ys. slice_get ys (suc i)) (placed-first o x xs touch) ∙ e, refl)
    by (inr apart) r = (r.0, ap (λ ys. slice_get ys (suc i)) (placed-later o x xs apart) ∙ r.1, r.2)

-- the state that takes the offer has its set
pub placed-takes : (xs : List SystemState) (o : SystemState) → (r : SystemState) × (slice_get (placed xs o) (place_of xs o) ≡ Some r) × (r.set.members ≡ o.set.members)
placed-takes [] o = (o, refl, refl)
placed-takes (x ∷ xs) o = by (cases_Bool (states_touch x o)) (placed-takes xs o)
  where
    by : (states_touch x o ≡ true) ⊎ (states_touch x o ≡ false) → (r : SystemState) × (slice_get (placed xs o) (place_of xs o) ≡ Some r) × (r.set.members ≡ o.set.members) →
        (r : SystemState) × (slice_get (placed (x ∷ xs) o) (place_of (x ∷ xs) o) ≡ Some r) × (r.set.members ≡ o.set.members)
    by (inl touch) r = (state_hull x o, ap (λ n. slice_get (placed (x ∷ xs) o) n) (place-first o x xs touch) ∙ ap (λ ys. slice_get ys 0) (placed-first o x xs touch), members_of_touch x o touch)
    by (inr apart) r = (r.0, ap (λ n. slice_get (placed (x ∷ xs) o) n) (place-later o x xs apart) ∙ ap (λ ys. slice_get ys (suc (place_of xs o))) (placed-later o x xs apart) ∙ r.1, r.2)

-- ---- all offers

abbrev pub grouped : List SystemState → List Offer → List SystemState
grouped xs os = fold placed xs (map (λ o. o.next) os)

pub grouped-keeps : (os : List Offer) (xs : List SystemState) (i : ℕ) (s : SystemState) → slice_get xs i ≡ Some s →
    (r : SystemState) × (slice_get (grouped xs os) i ≡ Some r) × (r.set.members ≡ s.set.members)
grouped-keeps [] xs i s e = (s, e, refl)
grouped-keeps (o ∷ os) xs i s e =
    let p = placed-keeps xs o.next i s e in
    let q = grouped-keeps os (placed xs o.next) i p.0 p.1 in
    (q.0, q.1, q.2 ∙ p.2)

-- an edge of an offer to a state that has its set
pub record ComesFrom (Q : Offer → Type 0) (after : List SystemState) (e : Edge) : Type 0 where
  pub offer : Offer
  pub is : Q offer
  pub from : e.from ≡ offer.from
  pub job : e.job ≡ offer.job
  pub window : e.window ≡ offer.window
  pub target : SystemState
  pub there : slice_get after e.to ≡ Some target
  pub members : target.set.members ≡ offer.next.set.members

pub edges_come : (Q : Offer → Type 0) (os : List Offer) (xs : List SystemState) → AllByRecursion Q os → AllByRecursion (ComesFrom Q (grouped xs os)) (edges_into xs os)
edges_come Q [] xs all = tt
edges_come Q (o ∷ os) xs all =
    let p = placed-takes xs o.next in
    let q = grouped-keeps os (placed xs o.next) (place_of xs o.next) p.0 p.1 in
    (record { offer = o; is = all.0; from = refl; job = refl; window = refl; target = q.0; there = q.1; members = q.2 ∙ p.2 }, edges_come Q os (placed xs o.next) all.1)
