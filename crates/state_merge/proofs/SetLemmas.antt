-- The places of sets, as the states become more.
use Rattle.std.proofs.Common.{◌≡◌, ℕ, suc, zero, Bool, true, false, cond, List, [], ◌∷◌, ◌++◌, ◌+◌, ◌<◌, length, map, set, get_or, refl, sym, ap, ◌∙◌, subst, arith, append-nil}
use Rattle.std.specs.Prelude.{◌==◌, ◌&&◌, nat_eq, position, Some, None, if◌then◌else◌}
use Rattle.std.specs.Cmp.Lexicographic.{pointwise, same_text}
use Rattle.std.specs.List.{AllByRecursion, IsDistinct, list_any, position_from}
use Rattle.std.proofs.lemmas.List.{get_or-map, length-map}
use Rattle.std.proofs.lemmas.List.Quantifiers.{position-Some}
use Rattle.std.proofs.lemmas.Iterator.Adapters.{position_from-zero}
use Rattle.std.proofs.lemmas.Map.Keys.{IsDistinct-head, IsDistinct-tail}
use Rattle.job_sets.specs.Subset.{Subset}
use Rattle.sag_step.specs.State.{SystemState, HeldState}
use Rattle.state_merge.specs.SameSet.{is_set, numbers_from, numbers_of, sets_of}
use Rattle.sag_step.specs.State.{states_of}
use Rattle.state_merge.specs.Index.{IsIndex}

pub first-true : (a b : Bool) → (a && b) ≡ true → a ≡ true
first-true true b e = refl
first-true false b e = absurd (cc)

second-true : (a b : Bool) → (a && b) ≡ true → b ≡ true
second-true true b e = e
second-true false b e = absurd (cc)

nat-same : (a b : ℕ) → nat_eq a b ≡ true → a ≡ b
nat-same a b e = grind arith

-- the test passes for a set and itself alone
pub set-same : (a b : Subset) → is_set a b ≡ true → a ≡ b
set-same a b e =
    let sizes : a.size ≡ b.size = nat-same a.size b.size (first-true (a.size == b.size) (pointwise nat_eq a.members b.members) e) in
    let members : a.members ≡ b.members = same_text a.members b.members (sym (second-true (a.size == b.size) (pointwise nat_eq a.members b.members) e)) in
    λ i. record { size = sizes i; members = members i }

nat-itself : (a : ℕ) → nat_eq a a ≡ true
nat-itself a = grind arith

pub list-itself : (xs : List ℕ) → pointwise nat_eq xs xs ≡ true
list-itself [] = refl
list-itself (x ∷ xs) = rw (nat-itself x) (list-itself xs)

pub set-itself : (a : Subset) → is_set a a ≡ true
set-itself a = rw (nat-itself a.size) (list-itself a.members)

pub set-turned : (a b : Subset) → is_set a b ≡ false → is_set b a ≡ false
set-turned a b e = by (is_set b a) refl
  where
    by : (r : Bool) → is_set b a ≡ r → is_set b a ≡ false
    by false p = p
    by true p = absurd (let same = set-same b a p in let one : is_set a b ≡ true = subst (λ x. is_set a x ≡ true) (sym same) (set-itself a) in cc)

-- one set more, at the end
pub numbers_from-push : (i : ℕ) (key : Subset) (sets : List Subset) (s : Subset) →
    numbers_from i key (sets ++ s ∷ []) ≡ numbers_from i key sets ++ (if is_set key s then (i + length sets) ∷ [] else [])
numbers_from-push i key [] s = rw (add-zero i) (by (is_set key s))
  where
    add-zero : (n : ℕ) → n + 0 ≡ n
    add-zero n = omega arith

    by : (b : Bool) → (if b then i ∷ [] else []) ≡ [] ++ (if b then i ∷ [] else [])
    by true = refl
    by false = refl
numbers_from-push i key (x ∷ xs) s =
    let count : i + suc (length xs) ≡ i + 1 + length xs = omega arith in
    rw (numbers_from-push (i + 1) key xs s, count) (by (is_set key x) (numbers_from (i + 1) key xs) (if is_set key s then (i + 1 + length xs) ∷ [] else []))
  where
    by : (b : Bool) (old more : List ℕ) → (if b then i ∷ (old ++ more) else old ++ more) ≡ (if b then i ∷ old else old) ++ more
    by true old more = refl
    by false old more = refl

-- a set of which none of the keys is one, by recursion
none-cons : (key : Subset) (k : Subset) (keys : List Subset) (i : ℕ) → position_from (is_set key) i (k ∷ keys) ≡ None →
    (is_set key k ≡ false) × (position_from (is_set key) (i + 1) keys ≡ None)
none-cons key k keys i e = by (is_set key k) refl e
  where
    by : (b : Bool) → is_set key k ≡ b → cond b (Some i) (position_from (is_set key) (i + 1) keys) ≡ None → (is_set key k ≡ false) × (position_from (is_set key) (i + 1) keys ≡ None)
    by true p q = absurd (cc)
    by false p q = (p, q)

-- of a key that is not the set the list stays
list-stays : (sets : List Subset) (s key : Subset) → is_set key s ≡ false → numbers_from 0 key (sets ++ s ∷ []) ≡ numbers_from 0 key sets
list-stays sets s key e =
    numbers_from-push 0 key sets s ∙ ap (λ b. numbers_from 0 key sets ++ (if b then (0 + length sets) ∷ [] else [])) e ∙ append-nil (numbers_from 0 key sets)

-- with a set more that is none of the keys their lists stay
others-stay : (i : ℕ) (s : Subset) (sets keys : List Subset) → position_from (is_set s) i keys ≡ None →
    map (λ key. numbers_from 0 key (sets ++ s ∷ [])) keys ≡ map (λ key. numbers_from 0 key sets) keys
others-stay i s sets [] e = refl
others-stay i s sets (k ∷ keys) e =
    let none = none-cons s k keys i e in
    let own = list-stays sets s k (set-turned s k none.0) in
    let rest = others-stay (i + 1) s sets keys none.1 in
    λ j. own j ∷ rest j

pub from-position : {A : Type 0} (test : A → Bool) (xs : List A) → position test xs ≡ position_from test 0 xs
from-position test xs = position_from-zero test xs

-- a set that is none of the keys, with one key more
none-push : (key : Subset) (keys : List Subset) (s : Subset) (i : ℕ) → position_from (is_set key) i (keys ++ s ∷ []) ≡ None →
    (position_from (is_set key) i keys ≡ None) × (is_set key s ≡ false)
none-push key [] s i e = (refl, (none-cons key s [] i e).0)
none-push key (k ∷ keys) s i e =
    let head = none-cons key k (keys ++ s ∷ []) i e in
    let rest = none-push key keys s (i + 1) head.1 in
    (rw head.0 rest.0, rest.1)

map-push : {A B : Type 0} (f : A → B) (xs : List A) (x : A) → map f (xs ++ x ∷ []) ≡ map f xs ++ f x ∷ []
map-push f [] x = refl
map-push f (y ∷ ys) x = ap (λ l. f y ∷ l) (map-push f ys x)

-- a set that no state had
pub index-new : (sets keys : List Subset) (lists : List (List ℕ)) (s : Subset) (number : ℕ) → IsIndex sets keys lists → number ≡ length sets →
    position (is_set s) keys ≡ None → IsIndex (sets ++ s ∷ []) (keys ++ s ∷ []) (lists ++ (number ∷ []) ∷ [])
index-new sets keys lists s number index is none =
    let from : position_from (is_set s) 0 keys ≡ None = sym (from-position (is_set s) keys) ∙ none in
    let stay = others-stay 0 s sets keys from in
    let zero-add : 0 + length sets ≡ number = omega arith in
    let own : numbers_from 0 s (sets ++ s ∷ []) ≡ number ∷ [] =
    numbers_from-push 0 s sets s ∙ ap (λ l. l ++ (if is_set s s then (0 + length sets) ∷ [] else [])) (index.others s none)
    ∙ ap (λ b. if b then (0 + length sets) ∷ [] else []) (set-itself s) ∙ ap (λ n. n ∷ []) zero-add in
    record {
      listed = ap (λ l. l ++ (number ∷ []) ∷ []) (index.listed ∙ sym stay) ∙ ap (λ l. map (λ key. numbers_from 0 key (sets ++ s ∷ [])) keys ++ l ∷ []) (sym own)
          ∙ sym (map-push (λ key. numbers_from 0 key (sets ++ s ∷ [])) keys s);
      others = λ key e.
          let both = none-push key keys s 0 (sym (from-position (is_set key) (keys ++ s ∷ [])) ∙ e) in
          list-stays sets s key both.1 ∙ index.others key (from-position (is_set key) keys ∙ both.0);
    }

-- ---- a set that some state has

-- read only past the end of a list of sets
abbrev no_set : Subset
no_set = record { size = 0; members = [] }

-- what holds of all sets of a list
all-at : (k : Subset) (ks : List Subset) (j : ℕ) → AllByRecursion (λ y. is_set k y ≡ false) ks → j < length ks → is_set k (get_or ks j no_set) ≡ false
all-at k [] j all lt = absurd (omega arith)
all-at k (x ∷ xs) zero all lt = all.0
all-at k (x ∷ xs) (suc j) all lt = all-at k xs j all.1 (omega arith)

none-at : (key : Subset) (keys : List Subset) (i j : ℕ) → position_from (is_set key) i keys ≡ None → j < length keys → is_set key (get_or keys j no_set) ≡ false
none-at key [] i j e lt = absurd (omega arith)
none-at key (x ∷ xs) i zero e lt = (none-cons key x xs i e).0
none-at key (x ∷ xs) i (suc j) e lt = none-at key xs (i + 1) j (none-cons key x xs i e).1 (omega arith)

lists-stay : (sets : List Subset) (s : Subset) (keys : List Subset) → AllByRecursion (λ y. is_set s y ≡ false) keys →
    map (λ key. numbers_from 0 key (sets ++ s ∷ [])) keys ≡ map (λ key. numbers_from 0 key sets) keys
lists-stay sets s [] all = refl
lists-stay sets s (k ∷ keys) all =
    let own = list-stays sets s k (set-turned s k all.0) in
    let rest = lists-stay sets s keys all.1 in
    λ j. own j ∷ rest j

put-keys : (sets : List Subset) (s : Subset) (number : ℕ) → number ≡ length sets → (keys : List Subset) (place : ℕ) → IsDistinct is_set keys → place < length keys →
    s ≡ get_or keys place no_set →
    set (map (λ key. numbers_from 0 key sets) keys) place (get_or (map (λ key. numbers_from 0 key sets) keys) place [] ++ number ∷ [])
    ≡ map (λ key. numbers_from 0 key (sets ++ s ∷ [])) keys
put-keys sets s number is [] place distinct lt here = absurd (omega arith)
put-keys sets s number is (k ∷ keys) zero distinct lt here =
    let zero-add : 0 + length sets ≡ number = omega arith in
    let own : numbers_from 0 k (sets ++ s ∷ []) ≡ numbers_from 0 k sets ++ number ∷ [] =
    numbers_from-push 0 k sets s ∙ ap (λ x. numbers_from 0 k sets ++ (if is_set k x then (0 + length sets) ∷ [] else [])) here
    ∙ ap (λ b. numbers_from 0 k sets ++ (if b then (0 + length sets) ∷ [] else [])) (set-itself k) ∙ ap (λ n. numbers_from 0 k sets ++ n ∷ []) zero-add in
    let rest = lists-stay sets s keys (subst (λ x. AllByRecursion (λ y. is_set x y ≡ false) keys) (sym here) (IsDistinct-head is_set k keys distinct)) in
    λ j. sym own j ∷ sym rest j
put-keys sets s number is (k ∷ keys) (suc place) distinct lt here =
    let apart : is_set k s ≡ false = ap (is_set k) here ∙ all-at k keys place (IsDistinct-head is_set k keys distinct) (omega arith) in
    let own = list-stays sets s k apart in
    let rest = put-keys sets s number is keys place (IsDistinct-tail is_set k keys distinct) (omega arith) here in
    λ j. sym own j ∷ rest j

-- a set that some state has already
pub index-put : (sets keys : List Subset) (lists : List (List ℕ)) (s : Subset) (number place : ℕ) → IsIndex sets keys lists → number ≡ length sets → IsDistinct is_set keys →
    position (is_set s) keys ≡ Some place → IsIndex (sets ++ s ∷ []) keys (set lists place (get_or lists place [] ++ number ∷ []))
index-put sets keys lists s number place index is distinct found =
    let at = position-Some (is_set s) keys place no_set found in
    let here : s ≡ get_or keys place no_set = set-same s (get_or keys place no_set) at.1 in
    record {
      listed = ap (λ l. set l place (get_or l place [] ++ number ∷ [])) index.listed ∙ put-keys sets s number is keys place distinct at.0 here;
      others = λ key e.
          let none : position_from (is_set key) 0 keys ≡ None = sym (from-position (is_set key) keys) ∙ e in
          let apart : is_set key s ≡ false = ap (is_set key) here ∙ none-at key keys 0 place none at.0 in
          list-stays sets s key apart ∙ index.others key e;
    }

-- ---- what is told of a set

pub index-at : (sets keys : List Subset) (lists : List (List ℕ)) (s : Subset) (place : ℕ) → IsIndex sets keys lists →
    position (is_set s) keys ≡ Some place → get_or lists place [] ≡ numbers_from 0 s sets
index-at sets keys lists s place index found =
    let at = position-Some (is_set s) keys place no_set found in
    let f : Subset → List ℕ = λ key. numbers_from 0 key sets in
    let here : s ≡ get_or keys place no_set = set-same s (get_or keys place no_set) at.1 in
    ap (λ l. get_or l place []) index.listed ∙ get_or-map f keys place no_set [] at.0 ∙ ap f (sym here)

pub index-count : (sets keys : List Subset) (lists : List (List ℕ)) → IsIndex sets keys lists → length lists ≡ length keys
index-count sets keys lists index = ap length index.listed ∙ length-map keys (λ key. numbers_from 0 key sets)

-- the numbers are those of states
numbers-below : (i : ℕ) (key : Subset) (sets : List Subset) (k d : ℕ) → k < length (numbers_from i key sets) → get_or (numbers_from i key sets) k d < i + length sets
numbers-below i key [] k d lt = absurd (omega arith)
numbers-below i key (s ∷ sets) k d lt = by (is_set key s) k (λ j below. numbers-below (i + 1) key sets j d below) lt
  where
    by : (b : Bool) (k : ℕ) → ((j : ℕ) → j < length (numbers_from (i + 1) key sets) → get_or (numbers_from (i + 1) key sets) j d < i + 1 + length sets) →
        k < length (if b then i ∷ numbers_from (i + 1) key sets else numbers_from (i + 1) key sets) →
        get_or (if b then i ∷ numbers_from (i + 1) key sets else numbers_from (i + 1) key sets) k d < i + suc (length sets)
    by true zero rest lt = omega arith
    by true (suc k) rest lt = let r = rest k (omega arith) in omega (arith, r)
    by false k rest lt = let r = rest k lt in omega (arith, r)

pub numbers-in-range : (key : Subset) (states : List SystemState) (k d : ℕ) → k < length (numbers_of key states) → get_or (numbers_of key states) k d < length states
unfolding numbers_of
numbers-in-range key states k d lt =
    let below = numbers-below 0 key (sets_of states) k d lt in
    let count : length (sets_of states) ≡ length states = length-map states (λ (s : SystemState). s.set) in
    omega arith

-- what an insertion makes of the keys
pub new-key : (s key : Subset) (keys more : List Subset) → key ≡ s → position (is_set s) keys ≡ None →
    more ≡ (if list_any (is_set key) keys then keys else keys ++ key ∷ []) → more ≡ keys ++ s ∷ []
new-key s key keys more same none e =
    let absent : list_any (is_set s) keys ≡ false = from keys 0 (sym (from-position (is_set s) keys) ∙ none) in
    e ∙ ap (λ k. if list_any (is_set k) keys then keys else keys ++ k ∷ []) same ∙ ap (λ b. if b then keys else keys ++ s ∷ []) absent
  where
    from : (ks : List Subset) (i : ℕ) → position_from (is_set s) i ks ≡ None → list_any (is_set s) ks ≡ false
    from [] i e = refl
    from (k ∷ ks) i e =
        let head = none-cons s k ks i e in
        rw head.0 (from ks (i + 1) head.1)

pub sets-count : (held : List HeldState) → length (sets_of (states_of held)) ≡ length held
sets-count held = length-map (states_of held) (λ (s : SystemState). s.set) ∙ length-map held (λ (h : HeldState). h.state)
