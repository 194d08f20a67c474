-- What a filter keeps of a list of numbers.
use Rattle.std.proofs.Common.{◌⊎◌, inl, inr, ◌≡◌, ℕ, zero, suc, ◌+◌, ◌<◌, ◌≤◌, Bool, true, false, cond, not, List, [], ◌∷◌, length, filter, get_or, refl, ap, sym, ◌∙◌, arith}
use Rattle.std.specs.Prelude.{◌==◌, ◌&&◌, ◌||◌, nat_lt, nat_le, remove}
use Rattle.std.specs.List.{count_by, list_all}
use Rattle.std.proofs.lemmas.Bool.{and_parts, and_from, or_parts, or_from, ltb-true, eqb-true, eq-eqb, ne_eqb, le-leb, cases_eq, false≢true}
use Rattle.std.proofs.lemmas.List.Sums.{length-filter}
use Rattle.job_sets.specs.Subset.{Subset, IsSubset, is_member, is_rising, without, common, is_within}
use Rattle.job_sets.proofs.Members.{is_member-first, is_member-rest, is_member-filter, is_member-from_filter, list_all-member, list_all-from_members}
use Rattle.job_sets.proofs.Additions.{places_rise, same_members}

pub list_all-filter : (q p : ℕ → Bool) (xs : List ℕ) → list_all q xs ≡ true → list_all q (filter p xs) ≡ true
list_all-filter q p [] all = refl
list_all-filter q p (x ∷ xs) all =
    let parts = and_parts (q x) (list_all q xs) all in
    let rest = list_all-filter q p xs parts.1 in
    elim (p x) as (λ b. list_all q (cond b (x ∷ filter p xs) (filter p xs)) ≡ true) [
      | true ↦ and_from (q x) (list_all q (filter p xs)) parts.0 rest
      | false ↦ rest
    ]

pub is_rising-filter : (p : ℕ → Bool) (xs : List ℕ) → is_rising xs ≡ true → is_rising (filter p xs) ≡ true
is_rising-filter p [] rising = refl
is_rising-filter p (x ∷ xs) rising =
    let parts = and_parts (list_all (nat_lt x) xs) (is_rising xs) rising in
    let rest = is_rising-filter p xs parts.1 in
    elim (p x) as (λ b. is_rising (cond b (x ∷ filter p xs) (filter p xs)) ≡ true) [
      | true ↦ and_from (list_all (nat_lt x) (filter p xs)) (is_rising (filter p xs)) (list_all-filter (nat_lt x) p xs parts.0) rest
      | false ↦ rest
    ]

-- a set of some members of a set is one
pub IsSubset-filter : (p : ℕ → Bool) (s : Subset) → IsSubset s → IsSubset (record { size = s.size; members = filter p s.members })
IsSubset-filter p s is = record {
  rising = is_rising-filter p s.members is.rising;
  in_range = list_all-filter (λ j. nat_lt j s.size) p s.members is.in_range;
}

-- tests that agree on the list keep the same
pub filter-same : (p q : ℕ → Bool) (xs : List ℕ) → ((k : ℕ) → is_member k xs ≡ true → p k ≡ q k) → filter p xs ≡ filter q xs
filter-same p q [] same = refl
filter-same p q (x ∷ xs) same =
    ap (λ b. cond b (x ∷ filter p xs) (filter p xs)) (same x (is_member-first x x xs refl))
    ∙ ap (λ zs. cond (q x) (x ∷ zs) zs) (filter-same p q xs (λ k there. same k (is_member-rest k x xs there)))

-- what is kept of what is kept
pub filter-both : (p q : ℕ → Bool) (xs : List ℕ) → filter p (filter q xs) ≡ filter (λ k. p k && q k) xs
filter-both p q [] = refl
filter-both p q (x ∷ xs) = at (p x) (q x) refl (filter-both p q xs)
  where
    at : (b c : Bool) → p x ≡ b → filter p (filter q xs) ≡ filter (λ k. p k && q k) xs →
        filter p (cond c (x ∷ filter q xs) (filter q xs)) ≡ cond (b && c) (x ∷ filter (λ k. p k && q k) xs) (filter (λ k. p k && q k) xs)
    at true true own rest = ap (λ b. cond b (x ∷ filter p (filter q xs)) (filter p (filter q xs))) own ∙ ap (λ zs. x ∷ zs) rest
    at false true own rest = ap (λ b. cond b (x ∷ filter p (filter q xs)) (filter p (filter q xs))) own ∙ rest
    at true false own rest = rest
    at false false own rest = rest

pub is_member-of_filter : (p : ℕ → Bool) (xs : List ℕ) (k : ℕ) → is_member k (filter p xs) ≡ (p k && is_member k xs)
is_member-of_filter p [] k = none (p k)
  where
    none : (b : Bool) → false ≡ (b && false)
    none true = refl
    none false = refl
is_member-of_filter p (x ∷ xs) k = at (p x) (x == k) refl refl (is_member-of_filter p xs k)
  where
    kept : (c : Bool) → p k ≡ c → (c ≡ true → true ≡ (p k && true))
    kept true is one = sym (ap (λ b. b && true) is)
    kept false is one = absurd (false≢true one)

    out : (c a : Bool) → c ≡ false → false ≡ (c && true)
    out false a is = refl
    out true a is = absurd (false≢true (sym is))

    at : (b c : Bool) → p x ≡ b → (x == k) ≡ c → is_member k (filter p xs) ≡ (p k && is_member k xs) →
        is_member k (cond b (x ∷ filter p xs) (filter p xs)) ≡ (p k && (c || is_member k xs))
    at true true own same rest =
        let here : p k ≡ true = ap p (sym (eqb-true x k same)) ∙ own in
        is_member-first k x (filter p xs) (eqb-true x k same) ∙ kept true here refl
    at true false own same rest = ap (λ c. c || is_member k (filter p xs)) same ∙ rest
    at false true own same rest =
        let here : p k ≡ false = ap p (sym (eqb-true x k same)) ∙ own in
        rest ∙ ap (λ b. b && is_member k xs) here ∙ out false false refl ∙ ap (λ b. b && true) (sym here)
    at false false own same rest = rest

-- a number below all is none of them
pub above-outside : (j : ℕ) (ks : List ℕ) → list_all (nat_lt j) ks ≡ true → is_member j ks ≡ false
above-outside j [] above = refl
above-outside j (k ∷ ks) above =
    let parts = and_parts (nat_lt j k) (list_all (nat_lt j) ks) above in
    let less : j < k = ltb-true j k parts.0 in
    or_from (k == j) (is_member j ks) (ne_eqb k j (λ same. omega (arith, less, same))) (above-outside j ks parts.1)

-- ---- lists within others

pub is_within-itself : (xs : List ℕ) → is_within xs xs ≡ true
is_within-itself xs = list_all-from_members (λ k. is_member k xs) xs (λ k there. there)

pub is_within-trans : (xs ys zs : List ℕ) → is_within xs ys ≡ true → is_within ys zs ≡ true → is_within xs zs ≡ true
is_within-trans xs ys zs h k = list_all-from_members (λ i. is_member i zs) xs (λ i there. list_all-member (λ i. is_member i zs) ys i k (list_all-member (λ i. is_member i ys) xs i h there))

-- what two lists have in common is within both, and all that is within both is within it
pub common-left : (xs ys : List ℕ) → is_within (common xs ys) xs ≡ true
common-left xs ys = list_all-from_members (λ k. is_member k xs) (common xs ys) (λ k there. (is_member-from_filter (λ k. is_member k ys) xs k there).1)

pub common-right : (xs ys : List ℕ) → is_within (common xs ys) ys ≡ true
common-right xs ys = list_all-from_members (λ k. is_member k ys) (common xs ys) (λ k there. (is_member-from_filter (λ k. is_member k ys) xs k there).0)

pub common-least : (zs xs ys : List ℕ) → is_within zs xs ≡ true → is_within zs ys ≡ true → is_within zs (common xs ys) ≡ true
common-least zs xs ys h k = list_all-from_members (λ i. is_member i (common xs ys)) zs (λ i there.
    is_member-filter (λ k. is_member k ys) xs i (list_all-member (λ i. is_member i ys) zs i k there) (list_all-member (λ i. is_member i xs) zs i h there))

-- ---- members counted in another list

-- all pass where as many are kept
filter-whole : (p : ℕ → Bool) (xs : List ℕ) → (length (filter p xs) == length xs) ≡ list_all p xs
filter-whole p [] = refl
filter-whole p (x ∷ xs) = at (p x) (filter-whole p xs)
  where
    fewer : (p : ℕ → Bool) (xs : List ℕ) → length (filter p xs) ≤ length xs
    fewer p [] = omega arith
    fewer p (x ∷ xs) =
        let rest = fewer p xs in
        elim (p x) as (λ b. length (cond b (x ∷ filter p xs) (filter p xs)) ≤ suc (length xs)) [ true ↦ omega (arith, rest) | false ↦ omega (arith, rest) ]

    one_more : (a b : ℕ) → (a ≡ b) ⊎ (a ≡ b → ⊥) → (suc a == suc b) ≡ (a == b)
    one_more a b (inl same) = eq-eqb (suc a) (suc b) (ap suc same) ∙ sym (eq-eqb a b same)
    one_more a b (inr other) = ne_eqb (suc a) (suc b) (λ same. other (omega (arith, same))) ∙ sym (ne_eqb a b other)

    at : (b : Bool) → (length (filter p xs) == length xs) ≡ list_all p xs → (length (cond b (x ∷ filter p xs) (filter p xs)) == suc (length xs)) ≡ (b && list_all p xs)
    at true rest = one_more (length (filter p xs)) (length xs) (cases_eq (length (filter p xs)) (length xs)) ∙ rest
    at false rest = ne_eqb (length (filter p xs)) (suc (length xs)) (λ same. omega (arith, same, fewer p xs))

-- of two rising lists, the first is within the second where as many of the second are in the first as that has
pub counted_within : (xs ys : List ℕ) → is_rising xs ≡ true → is_rising ys ≡ true → (count_by (λ k. is_member k xs) ys == length xs) ≡ is_within xs ys
counted_within xs ys rising rising' =
    let p : ℕ → Bool = λ k. is_member k xs in
    let q : ℕ → Bool = λ k. is_member k ys in
    let one : filter p ys ≡ filter q xs = same_members (filter p ys) (filter q xs) (is_rising-filter p ys rising') (is_rising-filter q xs rising)
    (λ k. is_member-of_filter p ys k ∙ swapped (p k) (q k) ∙ sym (is_member-of_filter q xs k)) in
    ap (λ n. n == length xs) (sym (length-filter p ys) ∙ ap length one) ∙ filter-whole q xs
  where
    swapped : (a b : Bool) → (a && b) ≡ (b && a)
    swapped true true = refl
    swapped true false = refl
    swapped false true = refl
    swapped false false = refl

-- ---- members that fail a test are removed, one of a list after another

-- number k is left where it is still to be looked at, or passes
abbrev pub is_left_of : (ℕ → Bool) → List ℕ → ℕ → Bool
is_left_of q ks k = is_member k ks || q k

-- where all are still to be looked at, all are left
pub left_of-start : (q : ℕ → Bool) (ks xs : List ℕ) → is_within xs ks ≡ true → filter (is_left_of q ks) xs ≡ xs
left_of-start q ks [] all = refl
left_of-start q ks (x ∷ xs) all =
    let parts = and_parts (is_member x ks) (is_within xs ks) all in
    ap (λ b. cond (b || q x) (x ∷ filter (is_left_of q ks) xs) (filter (is_left_of q ks) xs)) parts.0 ∙ ap (λ zs. x ∷ zs) (left_of-start q ks xs parts.1)

module _ (q : ℕ → Bool) (xs : List ℕ) (k : ℕ) (ks : List ℕ) where
  agree : ((i : ℕ) → is_member i xs ≡ true → (k == i) ≡ true → is_left_of q (k ∷ ks) i ≡ is_left_of q ks i) → filter (is_left_of q (k ∷ ks)) xs ≡ filter (is_left_of q ks) xs
  agree here = filter-same (is_left_of q (k ∷ ks)) (is_left_of q ks) xs (λ i there. at i there (k == i) refl)
    where
      at : (i : ℕ) → is_member i xs ≡ true → (b : Bool) → (k == i) ≡ b → is_left_of q (k ∷ ks) i ≡ is_left_of q ks i
      at i there true is = here i there is
      at i there false is = ap (λ b. (b || is_member i ks) || q i) is

  -- one that passes stays
  pub left_of-passed : q k ≡ true → filter (is_left_of q (k ∷ ks)) xs ≡ filter (is_left_of q ks) xs
  left_of-passed passes = agree (λ i there is.
      ap (λ b. (b || is_member i ks) || q i) is ∙ sym (ap (λ b. is_member i ks || b) (ap q (sym (eqb-true k i is)) ∙ passes) ∙ any (is_member i ks)))
    where
      any : (a : Bool) → (a || true) ≡ true
      any true = refl
      any false = refl

  -- one that is none of them is not missed
  pub left_of-absent : is_member k (filter (is_left_of q (k ∷ ks)) xs) ≡ false → filter (is_left_of q (k ∷ ks)) xs ≡ filter (is_left_of q ks) xs
  left_of-absent out = agree (λ i there is.
      let same : k ≡ i = eqb-true k i is in
      let own : is_left_of q (k ∷ ks) k ≡ true = ap (λ b. (b || is_member k ks) || q k) (eq-eqb k k refl) in
      absurd (false≢true (sym out ∙ is_member-filter (is_left_of q (k ∷ ks)) xs k own (ap (λ n. is_member n xs) same ∙ there))))

  -- one that fails is removed
  pub left_of-removed : is_member k ks ≡ false → q k ≡ false → without k (filter (is_left_of q (k ∷ ks)) xs) ≡ filter (is_left_of q ks) xs
  left_of-removed once fails =
      filter-both (λ i. not (k == i)) (is_left_of q (k ∷ ks)) xs
      ∙ filter-same (λ i. not (k == i) && is_left_of q (k ∷ ks) i) (is_left_of q ks) xs (λ i there. at i (k == i) refl)
    where
      at : (i : ℕ) (b : Bool) → (k == i) ≡ b → (not (k == i) && is_left_of q (k ∷ ks) i) ≡ is_left_of q ks i
      at i true is =
          let same : k ≡ i = eqb-true k i is in
          ap (λ b. not b && is_left_of q (k ∷ ks) i) is ∙ sym (ap (is_left_of q ks) (sym same) ∙ ap (λ b. b || q k) once ∙ fails)
      at i false is = ap (λ b. not b && ((b || is_member i ks) || q i)) is
