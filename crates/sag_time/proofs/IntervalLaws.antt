-- Laws of intervals.
use Rattle.std.proofs.Common.{◌≡◌, ℕ, ◌+◌, ◌≤◌, ◌<◌, ◌||◌, ⊎_elim, true, arith}
use Rattle.std.specs.Prelude.{nat_le}
use Rattle.std.proofs.lemmas.Bool.{and_parts, and_from, leb-true, le-leb, cases_lt, or_left, or_right, or_cases}
use Rattle.sag_time.specs.Interval.{Interval, hull, touches, covers, holds}
use Rattle.sag_time.specs.Laws.{TouchLeavesNoGap, HullIsLeast, CoversIsOrder, CoversHoldsAll}

holds-from : (a : Interval) (t : ℕ) → a.lo ≤ t → t ≤ a.hi → holds a t ≡ true
holds-from a t from to = and_from (nat_le a.lo t) (nat_le t a.hi) (le-leb a.lo t from) (le-leb t a.hi to)

bounds : (a : Interval) (t : ℕ) → holds a t ≡ true → (a.lo ≤ t) × (t ≤ a.hi)
bounds a t there =
    let parts = and_parts (nat_le a.lo t) (nat_le t a.hi) there in
    (leb-true a.lo t parts.0, leb-true t a.hi parts.1)

covers-from : (a b : Interval) → a.lo ≤ b.lo → b.hi ≤ a.hi → covers a b ≡ true
covers-from a b lo hi = and_from (nat_le a.lo b.lo) (nat_le b.hi a.hi) (le-leb a.lo b.lo lo) (le-leb b.hi a.hi hi)

ends : (a b : Interval) → covers a b ≡ true → (a.lo ≤ b.lo) × (b.hi ≤ a.hi)
ends a b wide =
    let parts = and_parts (nat_le a.lo b.lo) (nat_le b.hi a.hi) wide in
    (leb-true a.lo b.lo parts.0, leb-true b.hi a.hi parts.1)

-- the hull of two that touch has no number outside both
pub touches-hull : (a b : Interval) (t : ℕ) → touches a b ≡ true → holds (hull a b) t ≡ true → (holds a t || holds b t) ≡ true
touches-hull a b t near there =
    let parts = and_parts (nat_le a.lo (b.hi + 1)) (nat_le b.lo (a.hi + 1)) near in
    let first : a.lo ≤ b.hi + 1 = leb-true a.lo (b.hi + 1) parts.0 in
    let second : b.lo ≤ a.hi + 1 = leb-true b.lo (a.hi + 1) parts.1 in
    let within = bounds (hull a b) t there in
    let in_a = λ (from : a.lo ≤ t) (to : t ≤ a.hi). or_left (holds a t) (holds b t) (holds-from a t from to) in
    let in_b = λ (from : b.lo ≤ t) (to : t ≤ b.hi). or_right (holds a t) (holds b t) (holds-from b t from to) in
    ⊎_elim
    (λ (early : t < a.lo). in_b (omega (arith, within.0, early)) (omega (arith, first, within.1, early)))
    (λ (late : a.lo ≤ t). ⊎_elim
    (λ (after : a.hi < t). in_b (omega (arith, second, after)) (omega (arith, within.1, after)))
    (λ (before : t ≤ a.hi). in_a late before)
    (cases_lt a.hi t))
    (cases_lt t a.lo)

-- where the hull of two has no number outside both, they touch
no_gap : (a b : Interval) → a.lo ≤ a.hi → b.lo ≤ b.hi → ((t : ℕ) → holds (hull a b) t ≡ true → (holds a t || holds b t) ≡ true) → touches a b ≡ true
no_gap a b a_order b_order full =
    let after : a.lo ≤ b.hi + 1 =
    ⊎_elim
    (λ (gap : b.hi + 1 < a.lo). ⊎_elim
    (λ (there : holds a (b.hi + 1) ≡ true). let in_a = bounds a (b.hi + 1) there in omega (arith, gap, in_a.0))
    (λ (there : holds b (b.hi + 1) ≡ true). let in_b = bounds b (b.hi + 1) there in omega (arith, in_b.1))
    (or_cases _ _ (full (b.hi + 1) (holds-from (hull a b) (b.hi + 1) (omega (arith, b_order)) (omega (arith, gap, a_order))))))
    (λ (near : a.lo ≤ b.hi + 1). near)
    (cases_lt (b.hi + 1) a.lo) in
    let before : b.lo ≤ a.hi + 1 =
    ⊎_elim
    (λ (gap : a.hi + 1 < b.lo). ⊎_elim
    (λ (there : holds a (a.hi + 1) ≡ true). let in_a = bounds a (a.hi + 1) there in omega (arith, in_a.1))
    (λ (there : holds b (a.hi + 1) ≡ true). let in_b = bounds b (a.hi + 1) there in omega (arith, gap, in_b.0))
    (or_cases _ _ (full (a.hi + 1) (holds-from (hull a b) (a.hi + 1) (omega (arith, a_order)) (omega (arith, gap, b_order))))))
    (λ (near : b.lo ≤ a.hi + 1). near)
    (cases_lt (a.hi + 1) b.lo) in
    and_from (nat_le a.lo (b.hi + 1)) (nat_le b.lo (a.hi + 1)) (le-leb a.lo (b.hi + 1) after) (le-leb b.lo (a.hi + 1) before)

pub touch_leaves_no_gap : TouchLeavesNoGap
touch_leaves_no_gap a b a_order b_order = (λ near t there. touches-hull a b t near there, λ full. no_gap a b a_order b_order full)

pub covers-hull_left : (a b : Interval) → covers (hull a b) a ≡ true
covers-hull_left a b = covers-from (hull a b) a (omega arith) (omega arith)

pub covers-hull_right : (a b : Interval) → covers (hull a b) b ≡ true
covers-hull_right a b = covers-from (hull a b) b (omega arith) (omega arith)

-- what covers both covers their hull
pub covers-hull : (c a b : Interval) → covers c a ≡ true → covers c b ≡ true → covers c (hull a b) ≡ true
covers-hull c a b left right =
    let over_a = ends c a left in
    let over_b = ends c b right in
    covers-from c (hull a b) (omega (arith, over_a.0, over_b.0)) (omega (arith, over_a.1, over_b.1))

pub hull_is_least : HullIsLeast
hull_is_least a b = (covers-hull_left a b, covers-hull_right a b, λ c left right. covers-hull c a b left right)

pub covers-itself : (a : Interval) → covers a a ≡ true
covers-itself a = covers-from a a (omega arith) (omega arith)

pub covers-trans : (a b c : Interval) → covers a b ≡ true → covers b c ≡ true → covers a c ≡ true
covers-trans a b c wide narrow =
    let over_b = ends a b wide in
    let over_c = ends b c narrow in
    covers-from a c (omega (arith, over_b.0, over_c.0)) (omega (arith, over_b.1, over_c.1))

covers-both : (a b : Interval) → covers a b ≡ true → covers b a ≡ true → a ≡ b
covers-both a b one other =
    let over_b = ends a b one in
    let over_a = ends b a other in
    let lo : a.lo ≡ b.lo = omega (arith, over_b.0, over_a.0) in
    let hi : a.hi ≡ b.hi = omega (arith, over_b.1, over_a.1) in
    λ i. record { lo = lo i; hi = hi i }

pub covers_is_order : CoversIsOrder
covers_is_order = (covers-itself, covers-trans, covers-both)

-- what an interval holds, one that covers it holds
pub holds-covers : (a b : Interval) (t : ℕ) → covers a b ≡ true → holds b t ≡ true → holds a t ≡ true
holds-covers a b t wide there =
    let over = ends a b wide in
    let within = bounds b t there in
    holds-from a t (omega (arith, over.0, within.0)) (omega (arith, over.1, within.1))

pub covers_holds_all : CoversHoldsAll
covers_holds_all a b order = (
  λ wide t there. holds-covers a b t wide there,
  λ all.
      let first = bounds a b.lo (all b.lo (holds-from b b.lo (omega arith) order)) in
      let last = bounds a b.hi (all b.hi (holds-from b b.hi order (omega arith))) in
      covers-from a b first.0 last.1,
)
