-- Groups of offers of two classes: what is made of one class does not depend on the other.
use Rattle.std.proofs.Common.{◌≡◌, ℕ, zero, suc, ◌+◌, ◌<◌, ◌≤◌, Bool, true, false, cond, not, eqb, List, [], ◌∷◌, length, get_or, refl, ap, sym, ◌∙◌, subst, arith, add-zero}
use Rattle.std.specs.List.{filter, fold, position_or_len}
use Rattle.graph_rework.specs.declared.occupant.Occupant.{Occupant}
use Rattle.graph_rework.specs.declared.occupant.Occupant.TheVariants.{Stayed, Remade}
use Rattle.graph_rework.specs.Order.{joined, place_in_order, order_from, ranks_from}

eqb-self : (n : ℕ) → eqb n n ≡ true
eqb-self n = grind arith

eqb-far : (a b : ℕ) → a < b → eqb a b ≡ false
eqb-far a b h = grind arith

get_or-one : (n i : ℕ) (xs : List ℕ) → get_or (n ∷ xs) (1 + i) 0 ≡ get_or xs i 0
get_or-one n i xs = let e : 1 + i ≡ suc i = omega arith in rw e refl

module _ {S : Type 0} (touch : S → S → Bool) (hull : S → S → S) where
  -- the first state that touches the offer absorbs it, and else it comes last
  abbrev pub put : List S → S → List S
  put [] o = o ∷ []
  put (s ∷ ss) o = cond (touch s o) (hull s o ∷ ss) (s ∷ put ss o)

  -- the place of the state that takes the offer
  abbrev pub spot_of : List S → S → ℕ
  spot_of ss o = position_or_len (λ s. touch s o) ss

  -- an offer of a class is taken by one of the class
  pub record AreApart (p : S → Bool) : Type 0 where
    pub one_class : (s o : S) → touch s o ≡ true → p s ≡ p o
    pub keeps_class : (s o : S) → p (hull s o) ≡ p s

  pub AreApart-not : (p : S → Bool) → AreApart p → AreApart (λ s. not (p s))
  AreApart-not p apart = record {
    one_class = λ s o e. ap not (apart.one_class s o e);
    keeps_class = λ s o. ap not (apart.keeps_class s o);
  }

  module _ (p : S → Bool) (apart : AreApart p) where
    filter-put_at : (s : S) (ss : List S) (o : S) (t b c : Bool) → touch s o ≡ t → p s ≡ b → p o ≡ c →
        filter p (put ss o) ≡ cond (p o) (put (filter p ss) o) (filter p ss) →
        filter p (put (s ∷ ss) o) ≡ cond (p o) (put (filter p (s ∷ ss)) o) (filter p (s ∷ ss))
    filter-put_at s ss o true true true et eb ec ih = simp (et, apart.keeps_class s o, eb, ec)
    filter-put_at s ss o true true false et eb ec ih = absurd (cc (apart.one_class s o et))
    filter-put_at s ss o true false true et eb ec ih = absurd (cc (apart.one_class s o et))
    filter-put_at s ss o true false false et eb ec ih = simp (et, apart.keeps_class s o, eb, ec)
    filter-put_at s ss o false true true et eb ec ih = simp (et, eb, ih, ec)
    filter-put_at s ss o false true false et eb ec ih = simp (et, eb, ih, ec)
    filter-put_at s ss o false false true et eb ec ih = simp (et, eb, ih, ec)
    filter-put_at s ss o false false false et eb ec ih = simp (et, eb, ih, ec)

    -- of the class of p, what one offer makes
    pub filter-put : (ss : List S) (o : S) → filter p (put ss o) ≡ cond (p o) (put (filter p ss) o) (filter p ss)
    filter-put [] o = refl
    filter-put (s ∷ ss) o = filter-put_at s ss o (touch s o) (p s) (p o) refl refl refl (filter-put ss o)

    pub filter-put_own : (ss : List S) (o : S) → p o ≡ true → filter p (put ss o) ≡ put (filter p ss) o
    filter-put_own ss o e = filter-put ss o ∙ ap (λ b. cond b (put (filter p ss) o) (filter p ss)) e

    pub filter-put_other : (ss : List S) (o : S) → p o ≡ false → filter p (put ss o) ≡ filter p ss
    filter-put_other ss o e = filter-put ss o ∙ ap (λ b. cond b (put (filter p ss) o) (filter p ss)) e

    -- of the class of p, what offers make is what its own offers make
    pub filter-fold : (ss os : List S) → filter p (fold put ss os) ≡ fold put (filter p ss) (filter p os)
    filter-fold ss [] = refl
    filter-fold ss (o ∷ os) =
        filter-fold (put ss o) os ∙ ap (λ xs. fold put xs (filter p os)) (filter-put ss o)
        ∙ elim (p o) as (λ b. fold put (cond b (put (filter p ss) o) (filter p ss)) (filter p os) ≡ fold put (filter p ss) (cond b (o ∷ filter p os) (filter p os)))
        [ true ↦ refl | false ↦ refl ]

    -- ---- the order of both classes

    -- With the spot of an offer, the order is that of the states once the offer is placed, and the spot is where it is.
    pub record IsJoined (k m : ℕ) (ss : List S) (o : S) (x : Occupant) : Type 0 where
      pub order : joined x (order_from p k m ss) ≡ order_from p k m (put ss o)
      pub place : place_in_order x (order_from p k m ss) ≡ spot_of ss o

    own_at : (k m : ℕ) (s : S) (ss : List S) (o : S) (t b : Bool) → touch s o ≡ t → p s ≡ b → p o ≡ true →
        IsJoined (k + 1) m ss o (Stayed (k + 1 + spot_of (filter p ss) o)) → IsJoined k (m + 1) ss o (Stayed (k + spot_of (filter p ss) o)) →
        IsJoined k m (s ∷ ss) o (Stayed (k + spot_of (filter p (s ∷ ss)) o))
    own_at k m s ss o true true et eb ec one two = record {
      order = simp (et, eb, apart.keeps_class s o, add-zero k, eqb-self k);
      place = simp (et, eb, add-zero k, eqb-self k);
    }
    own_at k m s ss o true false et eb ec one two = absurd (cc (apart.one_class s o et))
    own_at k m s ss o false true et eb ec one two =
        let r : ℕ = spot_of (filter p ss) o in
        let e : k + (1 + r) ≡ k + 1 + r = omega arith in
        let far : eqb k (k + 1 + r) ≡ false = eqb-far k (k + 1 + r) (omega arith) in
        let own : spot_of (filter p (s ∷ ss)) o ≡ 1 + r = ap (λ b. spot_of (cond b (s ∷ filter p ss) (filter p ss)) o) eb ∙ ap (λ t. cond (not t) (1 + r) 0) et in
        subst (λ n. IsJoined k m (s ∷ ss) o (Stayed (k + n))) (sym own)
        (subst (λ n. IsJoined k m (s ∷ ss) o (Stayed n)) (sym e)
        (record { order = simp (et, eb, far, one.order); place = simp (et, eb, far, one.place) }))
    own_at k m s ss o false false et eb ec one two = record { order = simp (et, eb, two.order); place = simp (et, eb, two.place) }

    -- an offer that stays is the one of its rank among those that stay
    pub joined-own : (k m : ℕ) (ss : List S) (o : S) → p o ≡ true → IsJoined k m ss o (Stayed (k + spot_of (filter p ss) o))
    joined-own k m [] o ec = record { order = simp (ec, add-zero k); place = refl }
    joined-own k m (s ∷ ss) o ec = own_at k m s ss o (touch s o) (p s) refl refl ec (joined-own (k + 1) m ss o ec) (joined-own k (m + 1) ss o ec)

    other_at : (k m : ℕ) (s : S) (ss : List S) (o : S) (t b : Bool) → touch s o ≡ t → p s ≡ b → p o ≡ false →
        IsJoined (k + 1) m ss o (Remade (m + spot_of (filter (λ s. not (p s)) ss) o)) → IsJoined k (m + 1) ss o (Remade (m + 1 + spot_of (filter (λ s. not (p s)) ss) o)) →
        IsJoined k m (s ∷ ss) o (Remade (m + spot_of (filter (λ s. not (p s)) (s ∷ ss)) o))
    other_at k m s ss o true true et eb ec one two = absurd (cc (apart.one_class s o et))
    other_at k m s ss o true false et eb ec one two = record {
      order = simp (et, eb, apart.keeps_class s o, add-zero m, eqb-self m);
      place = simp (et, eb, add-zero m, eqb-self m);
    }
    other_at k m s ss o false true et eb ec one two = record { order = simp (et, eb, one.order); place = simp (et, eb, one.place) }
    other_at k m s ss o false false et eb ec one two =
        let r : ℕ = spot_of (filter (λ s. not (p s)) ss) o in
        let e : m + (1 + r) ≡ m + 1 + r = omega arith in
        let far : eqb m (m + 1 + r) ≡ false = eqb-far m (m + 1 + r) (omega arith) in
        let own : spot_of (filter (λ s. not (p s)) (s ∷ ss)) o ≡ 1 + r =
        ap (λ b. spot_of (cond (not b) (s ∷ filter (λ s. not (p s)) ss) (filter (λ s. not (p s)) ss)) o) eb ∙ ap (λ t. cond (not t) (1 + r) 0) et in
        subst (λ n. IsJoined k m (s ∷ ss) o (Remade (m + n))) (sym own)
        (subst (λ n. IsJoined k m (s ∷ ss) o (Remade n)) (sym e)
        (record { order = simp (et, eb, far, two.order); place = simp (et, eb, far, two.place) }))

    -- an offer that does not is the one of its rank among the others
    pub joined-other : (k m : ℕ) (ss : List S) (o : S) → p o ≡ false → IsJoined k m ss o (Remade (m + spot_of (filter (λ s. not (p s)) ss) o))
    joined-other k m [] o ec = record { order = simp (ec, add-zero m); place = refl }
    joined-other k m (s ∷ ss) o ec = other_at k m s ss o (touch s o) (p s) refl refl ec (joined-other (k + 1) m ss o ec) (joined-other k (m + 1) ss o ec)

    -- ---- ranks within the class

    ranks-put_at : (n : ℕ) (s : S) (ss : List S) (o : S) (t b : Bool) → touch s o ≡ t → p s ≡ b → p o ≡ true →
        ((n : ℕ) → get_or (ranks_from p n (put ss o)) (spot_of ss o) 0 ≡ n + spot_of (filter p ss) o) →
        get_or (ranks_from p n (put (s ∷ ss) o)) (spot_of (s ∷ ss) o) 0 ≡ n + spot_of (filter p (s ∷ ss)) o
    ranks-put_at n s ss o true true et eb ec ih = simp (et, eb, add-zero n)
    ranks-put_at n s ss o true false et eb ec ih = absurd (cc (apart.one_class s o et))
    ranks-put_at n s ss o false true et eb ec ih =
        let r : ℕ = spot_of (filter p ss) o in
        let e : n + (1 + r) ≡ n + 1 + r = omega arith in
        simp (et, eb, get_or-one, ih (n + 1), e)
    ranks-put_at n s ss o false false et eb ec ih = simp (et, eb, get_or-one, ih n)

    -- The rank of the state that takes an offer of the class, once it is placed.
    pub ranks-put : (n : ℕ) (ss : List S) (o : S) → p o ≡ true → get_or (ranks_from p n (put ss o)) (spot_of ss o) 0 ≡ n + spot_of (filter p ss) o
    ranks-put n [] o ec = sym (add-zero n)
    ranks-put n (s ∷ ss) o ec = ranks-put_at n s ss o (touch s o) (p s) refl refl ec (λ n. ranks-put n ss o ec)

    ranks-stay_at : (n i : ℕ) (s : S) (ss : List S) (o : S) (t : Bool) → touch s o ≡ t → suc i < length (s ∷ ss) →
        ((n : ℕ) → get_or (ranks_from p n (put ss o)) i 0 ≡ get_or (ranks_from p n ss) i 0) →
        get_or (ranks_from p n (put (s ∷ ss) o)) (suc i) 0 ≡ get_or (ranks_from p n (s ∷ ss)) (suc i) 0
    ranks-stay_at n i s ss o true et h ih = simp (et, apart.keeps_class s o)
    ranks-stay_at n i s ss o false et h ih = simp (et, ih (cond (p s) (n + 1) n))

    -- the ranks of the states that are there stay
    pub ranks-stay : (n i : ℕ) (ss : List S) (o : S) → i < length ss → get_or (ranks_from p n (put ss o)) i 0 ≡ get_or (ranks_from p n ss) i 0
    ranks-stay n i [] o h = absurd (omega arith)
    ranks-stay n zero (s ∷ ss) o h = elim (touch s o) as (λ t. get_or (ranks_from p n (cond t (hull s o ∷ ss) (s ∷ put ss o))) 0 0 ≡ n) [ true ↦ refl | false ↦ refl ]
    ranks-stay n (suc i) (s ∷ ss) o h = ranks-stay_at n i s ss o (touch s o) refl h (λ n. ranks-stay n i ss o (omega arith))

  pub length-put : (ss : List S) (o : S) → length ss ≤ length (put ss o)
  length-put [] o = omega arith
  length-put (s ∷ ss) o = let ih = length-put ss o in elim (touch s o) as (λ t. suc (length ss) ≤ length (cond t (hull s o ∷ ss) (s ∷ put ss o))) [ true ↦ omega arith | false ↦ omega arith ]

  pub spot-within : (ss : List S) (o : S) → spot_of ss o < length (put ss o)
  spot-within [] o = omega arith
  spot-within (s ∷ ss) o = let ih = spot-within ss o in elim (touch s o) as (λ t. cond (not t) (1 + spot_of ss o) 0 < length (cond t (hull s o ∷ ss) (s ∷ put ss o))) [ true ↦ omega arith | false ↦ omega arith ]

  pub length-fold : (ss os : List S) → length ss ≤ length (fold put ss os)
  length-fold ss [] = omega arith
  length-fold ss (o ∷ os) = omega (arith, length-put ss o, length-fold (put ss o) os)

  module _ (p : S → Bool) (apart : AreApart p) where
    pub ranks-stay_fold : (n i : ℕ) (ss os : List S) → i < length ss → get_or (ranks_from p n (fold put ss os)) i 0 ≡ get_or (ranks_from p n ss) i 0
    ranks-stay_fold n i ss [] h = refl
    ranks-stay_fold n i ss (o ∷ os) h = ranks-stay_fold n i (put ss o) os (omega (arith, length-put ss o)) ∙ ranks-stay p apart n i ss o h

    -- The rank of the state that takes an offer of the class, once all later offers are placed too.
    pub ranks-all : (ss os : List S) (o : S) → p o ≡ true → get_or (ranks_from p 0 (fold put (put ss o) os)) (spot_of ss o) 0 ≡ spot_of (filter p ss) o
    ranks-all ss os o ec = ranks-stay_fold 0 (spot_of ss o) (put ss o) os (spot-within ss o) ∙ ranks-put p apart 0 ss o ec ∙ omega arith
