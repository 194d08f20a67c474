-- Lists that are put in order by a test: they keep their elements, and are in order.
use Rattle.std.proofs.Common.{◌≡◌, ℕ, zero, suc, ◌+◌, ◌<◌, ◌≤◌, ◌⊎◌, inl, inr, Bool, true, false, cond, List, [], ◌∷◌, length, map, get_or, refl, arith}
use Rattle.std.specs.List.{AllByRecursion, range_with_len}
use Rattle.std.specs.List.Sorted.{IsPermutation, IsStrictlySortedBy}
use Rattle.std.specs.declared.cmp.Ordering.{Ordering}
use Rattle.std.specs.declared.cmp.Ordering.TheVariants.{Less}
use Rattle.std.specs.Ordering.{is_lt}
use Rattle.std.proofs.lemmas.List.Sorted.{IsPermutation-refl, IsPermutation-cons, IsPermutation-middle, IsPermutation-trans}
use Rattle.lists.specs.Sorting.{insert_by, sorted_by}
use Rattle.lists.proofs.Elements.{recursion_at, recursion_weaker}
use Rattle.lists.proofs.Orderings.{is_Less}

-- in order: each element is before all later ones
abbrev pub InOrder : {X : Type 0} → (X → X → Bool) → List X → Type 0
InOrder lt [] = Unit {0}
InOrder lt (x ∷ xs) = AllByRecursion (λ y. lt x y ≡ true) xs × InOrder lt xs

-- of each two elements one is before the other
abbrev pub AreRanked : {X : Type 0} → (X → X → Bool) → List X → Type 0
AreRanked lt [] = Unit {0}
AreRanked lt (x ∷ xs) = AllByRecursion (λ y. (lt x y ≡ true) ⊎ (lt y x ≡ true)) xs × AreRanked lt xs

module _ {X : Type 0} (lt : X → X → Bool) where
  length_inserted : (b : Bool) (x y : X) (ys : List X) (n : ℕ) → length (insert_by lt x ys) ≡ n + 1 → length ys ≡ n →
      length (cond b (x ∷ y ∷ ys) (y ∷ insert_by lt x ys)) ≡ suc n + 1
  length_inserted true x y ys n e f = omega (arith, f)
  length_inserted false x y ys n e f = omega (arith, e)

  pub length-insert_by : (x : X) (ys : List X) → length (insert_by lt x ys) ≡ length ys + 1
  length-insert_by x [] = omega arith
  length-insert_by x (y ∷ ys) = length_inserted (lt x y) x y ys (length ys) (length-insert_by x ys) refl

  pub length-sorted_by : (xs : List X) → length (sorted_by lt xs) ≡ length xs
  length-sorted_by [] = refl
  length-sorted_by (x ∷ xs) = omega (arith, length-insert_by x (sorted_by lt xs), length-sorted_by xs)

  permutation_inserted : (b : Bool) (x y : X) (ys : List X) → IsPermutation (x ∷ ys) (insert_by lt x ys) →
      IsPermutation (x ∷ y ∷ ys) (cond b (x ∷ y ∷ ys) (y ∷ insert_by lt x ys))
  permutation_inserted true x y ys moved = IsPermutation-refl (x ∷ y ∷ ys)
  permutation_inserted false x y ys moved =
      IsPermutation-trans (x ∷ y ∷ ys) (y ∷ x ∷ ys) (y ∷ insert_by lt x ys) (IsPermutation-middle (x ∷ []) y ys) (IsPermutation-cons y (x ∷ ys) (insert_by lt x ys) moved)

  pub IsPermutation-insert_by : (x : X) (ys : List X) → IsPermutation (x ∷ ys) (insert_by lt x ys)
  IsPermutation-insert_by x [] = IsPermutation-refl (x ∷ [])
  IsPermutation-insert_by x (y ∷ ys) = permutation_inserted (lt x y) x y ys (IsPermutation-insert_by x ys)

  pub IsPermutation-sorted_by : (xs : List X) → IsPermutation xs (sorted_by lt xs)
  IsPermutation-sorted_by [] = IsPermutation-refl []
  IsPermutation-sorted_by (x ∷ xs) =
      IsPermutation-trans (x ∷ xs) (x ∷ sorted_by lt xs) (insert_by lt x (sorted_by lt xs))
      (IsPermutation-cons x xs (sorted_by lt xs) (IsPermutation-sorted_by xs)) (IsPermutation-insert_by x (sorted_by lt xs))

  one_inserted : (P : X → Type 0) (b : Bool) (x y : X) (ys : List X) → P x → P y → AllByRecursion P ys → AllByRecursion P (insert_by lt x ys) →
      AllByRecursion P (cond b (x ∷ y ∷ ys) (y ∷ insert_by lt x ys))
  one_inserted P true x y ys here next rest more = (here, (next, rest))
  one_inserted P false x y ys here next rest more = (next, more)

  pub all-insert_by : (P : X → Type 0) (x : X) (ys : List X) → P x → AllByRecursion P ys → AllByRecursion P (insert_by lt x ys)
  all-insert_by P x [] here all = (here, tt)
  all-insert_by P x (y ∷ ys) here all = one_inserted P (lt x y) x y ys here all.0 all.1 (all-insert_by P x ys here all.1)

  pub all-sorted_by : (P : X → Type 0) (xs : List X) → AllByRecursion P xs → AllByRecursion P (sorted_by lt xs)
  all-sorted_by P [] all = tt
  all-sorted_by P (x ∷ xs) all = all-insert_by P x (sorted_by lt xs) all.0 (all-sorted_by P xs all.1)

  module _ (trans : (x y z : X) → lt x y ≡ true → lt y z ≡ true → lt x z ≡ true) where
    second_before : (b : Bool) (x y : X) → lt x y ≡ b → b ≡ false → (lt x y ≡ true) ⊎ (lt y x ≡ true) → lt y x ≡ true
    second_before b x y e f (inl h) = cc
    second_before b x y e f (inr h) = h

    order_inserted : (b : Bool) (x y : X) (ys : List X) → lt x y ≡ b → (lt x y ≡ true) ⊎ (lt y x ≡ true) →
        AllByRecursion (λ z. lt y z ≡ true) ys → InOrder lt ys → InOrder lt (insert_by lt x ys) → InOrder lt (cond b (x ∷ y ∷ ys) (y ∷ insert_by lt x ys))
    order_inserted true x y ys e either behind rest more = ((e, recursion_weaker (λ z. lt y z ≡ true) (λ z. lt x z ≡ true) (λ z h. trans x y z e h) ys behind), (behind, rest))
    order_inserted false x y ys e either behind rest more = (all-insert_by (λ z. lt y z ≡ true) x ys (second_before false x y e refl either) behind, more)

    pub order-insert_by : (x : X) (ys : List X) → AllByRecursion (λ y. (lt x y ≡ true) ⊎ (lt y x ≡ true)) ys → InOrder lt ys → InOrder lt (insert_by lt x ys)
    order-insert_by x [] ranked order = (tt, tt)
    order-insert_by x (y ∷ ys) ranked order = order_inserted (lt x y) x y ys refl ranked.0 order.0 order.1 (order-insert_by x ys ranked.1 order.1)

    pub order-sorted_by : (xs : List X) → AreRanked lt xs → InOrder lt (sorted_by lt xs)
    order-sorted_by [] ranked = tt
    order-sorted_by (x ∷ xs) ranked = order-insert_by x (sorted_by lt xs) (all-sorted_by (λ y. (lt x y ≡ true) ⊎ (lt y x ≡ true)) xs ranked.0) (order-sorted_by xs ranked.1)

  -- in order, by places
  pub order_at : (xs : List X) (i k : ℕ) (d : X) → InOrder lt xs → i < k → k < length xs → lt (get_or xs i d) (get_or xs k d) ≡ true
  order_at [] i k d order less below = absurd (omega (arith, below))
  order_at (x ∷ xs) i zero d order less below = absurd (omega (arith, less))
  order_at (x ∷ xs) zero (suc k) d order less below = recursion_at (λ y. lt x y ≡ true) xs k d order.0 (omega (arith, below))
  order_at (x ∷ xs) (suc i) (suc k) d order less below = order_at xs i k d order.1 (omega (arith, less)) (omega (arith, below))

-- a list in order by the test of an order is in strict order
pub strictly : {X : Type 0} (R : X → X → Ordering) (xs : List X) → InOrder (λ x y. is_lt (R x y)) xs → IsStrictlySortedBy R xs
unfolding IsStrictlySortedBy
strictly R [] order = tt
strictly R (x ∷ xs) order = (recursion_weaker (λ y. is_lt (R x y) ≡ true) (λ y. R x y ≡ Less) (λ y e. is_Less (R x y) e) xs order.0, strictly R xs order.1)

-- a function that keeps the order of some elements keeps a list of them in strict order
module _ {X Y : Type 0} (f : X → Y) (Q : X → X → Ordering) (R : Y → Y → Ordering) (P : X → Type 0) (keeps : (x y : X) → P x → P y → Q x y ≡ Less → R (f x) (f y) ≡ Less) where
  after_mapped : (x : X) (xs : List X) → P x → AllByRecursion P xs → AllByRecursion (λ y. Q x y ≡ Less) xs → AllByRecursion (λ z. R (f x) z ≡ Less) (map f xs)
  after_mapped x [] here all order = tt
  after_mapped x (y ∷ ys) here all order = (keeps x y here all.0 order.0, after_mapped x ys here all.1 order.1)

  pub IsStrictlySortedBy-map : (xs : List X) → AllByRecursion P xs → IsStrictlySortedBy Q xs → IsStrictlySortedBy R (map f xs)
  unfolding IsStrictlySortedBy
  IsStrictlySortedBy-map [] all order = tt
  IsStrictlySortedBy-map (x ∷ xs) all order = (after_mapped x xs all.0 all.1 order.0, IsStrictlySortedBy-map xs all.1 order.1)

-- numbers from a on are at least a, and below its end
pub all_range : (P : ℕ → Type 0) (a n : ℕ) → ((x : ℕ) → a ≤ x → x < a + n → P x) → AllByRecursion P (range_with_len a n)
all_range P a zero h = tt
all_range P a (suc n) h = (h a (omega arith) (omega arith), all_range P (a + 1) n (λ x from below. h x (omega (arith, from)) (omega (arith, below))))

pub ranked_range : (lt : ℕ → ℕ → Bool) (a n : ℕ) → ((x y : ℕ) → a ≤ x → x < y → y < a + n → (lt x y ≡ true) ⊎ (lt y x ≡ true)) → AreRanked lt (range_with_len a n)
ranked_range lt a zero h = tt
ranked_range lt a (suc n) h = (
  all_range (λ y. (lt a y ≡ true) ⊎ (lt y a ≡ true)) (a + 1) n (λ y from below. h a y (omega arith) (omega (arith, from)) (omega (arith, below))),
  ranked_range lt (a + 1) n (λ x y from less below. h x y (omega (arith, from)) less (omega (arith, below))),
)
