-- States of one set beside each other: widening, and hulls.
use Rattle.std.proofs.Common.{◌≡◌, ℕ, Bool, true, List, [], ◌∷◌, length, refl, ap, sym, ◌∙◌, arith, min, max}
use Rattle.std.specs.Prelude.{nat_le, nat_eq, ◌==◌, ◌&&◌}
use Rattle.std.specs.List.{list_all}
use Rattle.std.specs.Map.{keys_of}
use Rattle.std.specs.Cmp.Lexicographic.{pointwise, as_long, bytes_decides}
use Rattle.std.proofs.lemmas.Bool.{and_parts, and_from, leb-true, le-leb, eqb-true, eq-eqb}
use Rattle.job_sets.specs.Subset.{is_member, is_within, common}
use Rattle.job_sets.proofs.Filters.{is_rising-filter, is_within-itself, is_within-trans, common-left, common-right, common-least}
use Rattle.job_model.specs.Table.{Table}
use Rattle.sag_time.specs.Interval.{Interval, hull, covers}
use Rattle.lists.specs.Zipped.{zip_with}
use Rattle.sag_time.proofs.IntervalLaws.{covers-itself, covers-trans, covers-hull, covers-hull_left, covers-hull_right}
use Rattle.sag_time.proofs.ZippedLists.{length-zip_with, is_sorted-zip_min, is_sorted-zip_max}
use Rattle.sag_step.specs.declared.TheConstants.{MOST_TIME}
use Rattle.sag_step.specs.State.{SystemState, tracked_jobs}
use Rattle.sag_step.specs.Shape.{IsState, IsUpTo}
use Rattle.sag_step.specs.Widen.{same_set, state_hull, end_hull, end_covers, widens, AreComparable}
use Rattle.sag_step.specs.Laws as law
use Rattle.sag_time.proofs.PairedLists.{pointwise-back, pointwise-itself, pointwise-trans, pointwise-zip_left, pointwise-zip_right, pointwise-zip, list_all-zip}

-- ---- widening, by its parts

pub record IsWider (a b : SystemState) : Type 0 where
  pub set : same_set a.set b.set ≡ true
  pub low : pointwise nat_le a.low b.low ≡ true
  pub high : pointwise nat_le b.high a.high ≡ true
  pub ends : pointwise end_covers a.ends b.ends ≡ true
  pub last : is_within a.last.members b.last.members ≡ true

module _ (a b : SystemState) where
  pub IsWider-from_test : widens a b ≡ true → IsWider a b
  IsWider-from_test h =
      let four = and_parts (same_set a.set b.set && pointwise nat_le a.low b.low && pointwise nat_le b.high a.high && pointwise end_covers a.ends b.ends) (is_within a.last.members b.last.members) h in
      let three = and_parts (same_set a.set b.set && pointwise nat_le a.low b.low && pointwise nat_le b.high a.high) (pointwise end_covers a.ends b.ends) four.0 in
      let two = and_parts (same_set a.set b.set && pointwise nat_le a.low b.low) (pointwise nat_le b.high a.high) three.0 in
      let one = and_parts (same_set a.set b.set) (pointwise nat_le a.low b.low) two.0 in
      record { set = one.0; low = one.1; high = two.1; ends = three.1; last = four.1 }

  pub widens-from : IsWider a b → widens a b ≡ true
  widens-from w =
      let one = and_from (same_set a.set b.set) (pointwise nat_le a.low b.low) w.set w.low in
      let two = and_from (same_set a.set b.set && pointwise nat_le a.low b.low) (pointwise nat_le b.high a.high) one w.high in
      let three = and_from (same_set a.set b.set && pointwise nat_le a.low b.low && pointwise nat_le b.high a.high) (pointwise end_covers a.ends b.ends) two w.ends in
      and_from (same_set a.set b.set && pointwise nat_le a.low b.low && pointwise nat_le b.high a.high && pointwise end_covers a.ends b.ends) (is_within a.last.members b.last.members) three w.last

-- ---- an order

pub nat_le-itself : (n : ℕ) → nat_le n n ≡ true
nat_le-itself n = le-leb n n (omega arith)

pub nat_le-trans : (x y z : ℕ) → nat_le x y ≡ true → nat_le y z ≡ true → nat_le x z ≡ true
nat_le-trans x y z h k = le-leb x z (omega (arith, leb-true x y h, leb-true y z k))

pub end_covers-itself : (e : ℕ × Interval) → end_covers e e ≡ true
end_covers-itself e = and_from (e.0 == e.0) (covers e.1 e.1) (eq-eqb e.0 e.0 refl) (covers-itself e.1)

pub end_covers-trans : (d e f : ℕ × Interval) → end_covers d e ≡ true → end_covers e f ≡ true → end_covers d f ≡ true
end_covers-trans d e f h k =
    let s = and_parts (d.0 == e.0) (covers d.1 e.1) h in
    let t = and_parts (e.0 == f.0) (covers e.1 f.1) k in
    and_from (d.0 == f.0) (covers d.1 f.1) (eq-eqb d.0 f.0 (eqb-true d.0 e.0 s.0 ∙ eqb-true e.0 f.0 t.0)) (covers-trans d.1 e.1 f.1 s.1 t.1)

pub same_members : (xs ys : List ℕ) → pointwise nat_eq xs ys ≡ true → xs ≡ ys
same_members xs ys = (bytes_decides xs ys).0

pub nat_eq-itself : (xs : List ℕ) → pointwise nat_eq xs xs ≡ true
nat_eq-itself xs = (bytes_decides xs xs).1 refl

pub widening_is_reflexive : law.WideningIsReflexive
widening_is_reflexive a = widens-from a a (record {
  set = nat_eq-itself a.set.members;
  low = pointwise-itself nat_le nat_le-itself a.low;
  high = pointwise-itself nat_le nat_le-itself a.high;
  ends = pointwise-itself end_covers end_covers-itself a.ends;
  last = is_within-itself a.last.members;
})

pub widening_is_transitive : law.WideningIsTransitive
widening_is_transitive a b c wide narrow =
    let s = IsWider-from_test a b wide in
    let t = IsWider-from_test b c narrow in
    widens-from a c (record {
      set = (bytes_decides a.set.members c.set.members).1 (same_members _ _ s.set ∙ same_members _ _ t.set);
      low = pointwise-trans nat_le nat_le-trans a.low b.low c.low s.low t.low;
      high = pointwise-trans nat_le nat_le-trans c.high b.high a.high t.high s.high;
      ends = pointwise-trans end_covers end_covers-trans a.ends b.ends c.ends s.ends t.ends;
      last = is_within-trans a.last.members b.last.members c.last.members s.last t.last;
    })

-- ---- hulls

keys_of-zip : (es fs : List (ℕ × Interval)) → keys_of es ≡ keys_of fs → keys_of (zip_with end_hull es fs) ≡ keys_of es
keys_of-zip [] fs same = refl
keys_of-zip (e ∷ es) [] same = cc
keys_of-zip (e ∷ es) (f ∷ fs) same = let rest : keys_of es ≡ keys_of fs = cc in ap (λ ks. e.0 ∷ ks) (keys_of-zip es fs rest)

ends-hull_left : (es fs : List (ℕ × Interval)) → keys_of es ≡ keys_of fs → pointwise end_covers (zip_with end_hull es fs) es ≡ true
ends-hull_left [] fs same = refl
ends-hull_left (e ∷ es) [] same = cc
ends-hull_left (e ∷ es) (f ∷ fs) same =
    let rest : keys_of es ≡ keys_of fs = cc in
    and_from (end_covers (end_hull e f) e) (pointwise end_covers (zip_with end_hull es fs) es)
    (and_from (e.0 == e.0) (covers (hull e.1 f.1) e.1) (eq-eqb e.0 e.0 refl) (covers-hull_left e.1 f.1)) (ends-hull_left es fs rest)

ends-hull_right : (es fs : List (ℕ × Interval)) → keys_of es ≡ keys_of fs → pointwise end_covers (zip_with end_hull es fs) fs ≡ true
ends-hull_right [] [] same = refl
ends-hull_right [] (f ∷ fs) same = cc
ends-hull_right (e ∷ es) [] same = cc
ends-hull_right (e ∷ es) (f ∷ fs) same =
    let first : e.0 ≡ f.0 = cc in
    let rest : keys_of es ≡ keys_of fs = cc in
    and_from (end_covers (end_hull e f) f) (pointwise end_covers (zip_with end_hull es fs) fs)
    (and_from (e.0 == f.0) (covers (hull e.1 f.1) f.1) (eq-eqb e.0 f.0 first) (covers-hull_right e.1 f.1)) (ends-hull_right es fs rest)

end_covers-hull : (d e f : ℕ × Interval) → end_covers d e ≡ true → end_covers d f ≡ true → end_covers d (end_hull e f) ≡ true
end_covers-hull d e f h k =
    let s = and_parts (d.0 == e.0) (covers d.1 e.1) h in
    let t = and_parts (d.0 == f.0) (covers d.1 f.1) k in
    and_from (d.0 == e.0) (covers d.1 (hull e.1 f.1)) s.0 (covers-hull d.1 e.1 f.1 s.1 t.1)

module _ (a b : SystemState) (comparable : AreComparable a b) (same : same_set a.set b.set ≡ true) where
  high_count : length a.high ≡ length b.high
  high_count =
      sym (as_long nat_le a.low a.high comparable.first_in_order) ∙ comparable.one_count ∙ as_long nat_le b.low b.high comparable.second_in_order

  same_keys : keys_of a.ends ≡ keys_of b.ends
  same_keys = comparable.same_ends same

  low_left : pointwise nat_le (zip_with min a.low b.low) a.low ≡ true
  low_left = pointwise-zip_left min nat_le (λ x y. le-leb (min x y) x (omega arith)) a.low b.low comparable.one_count

  low_right : pointwise nat_le (zip_with min a.low b.low) b.low ≡ true
  low_right = pointwise-zip_right min nat_le (λ x y. le-leb (min x y) y (omega arith)) a.low b.low comparable.one_count

  high_left : pointwise nat_le a.high (zip_with max a.high b.high) ≡ true
  high_left =
      sym (pointwise-back nat_le (zip_with max a.high b.high) a.high)
      ∙ pointwise-zip_left max (λ x y. nat_le y x) (λ x y. le-leb x (max x y) (omega arith)) a.high b.high high_count

  high_right : pointwise nat_le b.high (zip_with max a.high b.high) ≡ true
  high_right =
      sym (pointwise-back nat_le (zip_with max a.high b.high) b.high)
      ∙ pointwise-zip_right max (λ x y. nat_le y x) (λ x y. le-leb y (max x y) (omega arith)) a.high b.high high_count

  hull-left : IsWider (state_hull a b) a
  hull-left = record { set = nat_eq-itself a.set.members; low = low_left; high = high_left; ends = ends-hull_left a.ends b.ends same_keys; last = common-left a.last.members b.last.members }

  hull-right : IsWider (state_hull a b) b
  hull-right = record { set = same; low = low_right; high = high_right; ends = ends-hull_right a.ends b.ends same_keys; last = common-right a.last.members b.last.members }

  -- what widens both widens the hull
  hull-least : (c : SystemState) → IsWider c a → IsWider c b → IsWider c (state_hull a b)
  hull-least c left right = record {
    set = left.set;
    low = pointwise-zip min nat_le (λ z x y h k. le-leb z (min x y) (omega (arith, leb-true z x h, leb-true z y k))) c.low a.low b.low left.low right.low;
    high =
        sym (pointwise-back nat_le c.high (zip_with max a.high b.high))
        ∙ pointwise-zip max (λ x y. nat_le y x) (λ z x y h k. le-leb (max x y) z (omega (arith, leb-true x z h, leb-true y z k))) c.high a.high b.high
        (pointwise-back nat_le c.high a.high ∙ left.high) (pointwise-back nat_le c.high b.high ∙ right.high);
    ends = pointwise-zip end_hull end_covers end_covers-hull c.ends a.ends b.ends left.ends right.ends;
    last = common-least c.last.members a.last.members b.last.members left.last right.last;
  }

pub state_hull_is_least : law.StateHullIsLeast
state_hull_is_least a b comparable same = (
  widens-from (state_hull a b) a (hull-left a b comparable same),
  widens-from (state_hull a b) b (hull-right a b comparable same),
  λ c left right. widens-from c (state_hull a b) (hull-least a b comparable same c (IsWider-from_test c a left) (IsWider-from_test c b right)),
)

-- ---- states

pub shaped_are_comparable : law.ShapedAreComparable
shaped_are_comparable table m a b one other = record {
  first_in_order = one.shape.in_order;
  second_in_order = other.shape.in_order;
  one_size = one.of_table ∙ sym other.of_table;
  one_count = one.shape.low_count ∙ sym other.shape.low_count;
  same_ends = λ same. one.shape.tracked ∙ ap (tracked_jobs table) (same_members a.set.members b.set.members same) ∙ sym other.shape.tracked;
}

module _ (table : Table) (m : ℕ) (a b : SystemState) (one : IsState table m a) (other : IsState table m b) (same : same_set a.set b.set ≡ true) where
  comparable : AreComparable a b
  comparable = shaped_are_comparable table m a b one other

  in_order : pointwise nat_le (zip_with min a.low b.low) (zip_with max a.high b.high) ≡ true
  in_order =
      pointwise-trans nat_le nat_le-trans (zip_with min a.low b.low) a.low (zip_with max a.high b.high) (low_left a b comparable same)
      (pointwise-trans nat_le nat_le-trans a.low a.high (zip_with max a.high b.high) one.shape.in_order (high_left a b comparable same))

  in_spans : list_all (λ (e : ℕ × Interval). nat_le e.1.lo e.1.hi) (zip_with end_hull a.ends b.ends) ≡ true
  in_spans =
      list_all-zip end_hull (λ (e : ℕ × Interval). nat_le e.1.lo e.1.hi) (λ (e : ℕ × Interval). nat_le e.1.lo e.1.hi) (λ (e : ℕ × Interval). nat_le e.1.lo e.1.hi)
      (λ e f h k. le-leb (min e.1.lo f.1.lo) (max e.1.hi f.1.hi) (omega (arith, leb-true e.1.lo e.1.hi h, leb-true f.1.lo f.1.hi k)))
      a.ends b.ends one.shape.spans other.shape.spans

  pub IsState-hull : IsState table m (state_hull a b)
  IsState-hull = record {
    some_core = one.some_core;
    of_table = one.of_table;
    set = one.set;
    last_size = one.last_size;
    shape = record {
      low_count = length-zip_with min a.low b.low comparable.one_count ∙ one.shape.low_count;
      in_order = in_order;
      low_sorted = is_sorted-zip_min a.low b.low one.shape.low_sorted other.shape.low_sorted;
      high_sorted = is_sorted-zip_max a.high b.high one.shape.high_sorted other.shape.high_sorted;
      tracked = keys_of-zip a.ends b.ends (comparable.same_ends same) ∙ one.shape.tracked;
      spans = in_spans;
      last_rises = is_rising-filter (λ k. is_member k b.last.members) a.last.members one.shape.last_rises;
      last_tracked =
          ap (is_within (common a.last.members b.last.members)) (keys_of-zip a.ends b.ends (comparable.same_ends same))
          ∙ is_within-trans (common a.last.members b.last.members) a.last.members (keys_of a.ends) (common-left a.last.members b.last.members) one.shape.last_tracked;
    };
  }

pub IsUpTo-hull : (limit : ℕ) (a b : SystemState) → IsUpTo limit a → IsUpTo limit b → IsUpTo limit (state_hull a b)
IsUpTo-hull limit a b one other =
    let test : ℕ → Bool = λ t. nat_le t limit in
    record {
      low = list_all-zip min test test test (λ x y h k. le-leb (min x y) limit (omega (arith, leb-true x limit h))) a.low b.low one.low other.low;
      high = list_all-zip max test test test (λ x y h k. le-leb (max x y) limit (omega (arith, leb-true x limit h, leb-true y limit k))) a.high b.high one.high other.high;
      ends =
          list_all-zip end_hull (λ (e : ℕ × Interval). nat_le e.1.hi limit) (λ (e : ℕ × Interval). nat_le e.1.hi limit) (λ (e : ℕ × Interval). nat_le e.1.hi limit)
          (λ e f h k. le-leb (max e.1.hi f.1.hi) limit (omega (arith, leb-true e.1.hi limit h, leb-true f.1.hi limit k))) a.ends b.ends one.ends other.ends;
    }

pub hull_is_state : law.HullIsState
hull_is_state = IsState-hull

pub hull_is_up_to : law.HullIsUpTo
hull_is_up_to = IsUpTo-hull

pub hull_is_shaped : law.HullIsShaped
hull_is_shaped table m a b one other same = record {
  is_state = IsState-hull table m a b one.is_state other.is_state same;
  in_limit = IsUpTo-hull MOST_TIME a b one.in_limit other.in_limit;
}
