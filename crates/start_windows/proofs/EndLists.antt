-- Lists of finish times: what an appended or replaced item leaves, and look-ups by number.
use Rattle.std.proofs.Common.{◌≡◌, ◌≢◌, ◌∙◌, ℕ, cond, Result, Ok, Err, zero, suc, ◌+◌, ◌-◌, ◌^◌, ◌<◌, ◌≤◌, Bool, true, false, List, [], ◌∷◌, ◌++◌, length, set, get_or, slice_get, Some, None, refl, sym, ap, arith, inl, inr, nat_eq, IsTrue}
use Rattle.std.specs.Prelude.{nat_lt, nat_le, is_some, ◌==◌, ◌||◌}
use Rattle.std.specs.List.{list_all}
use Rattle.std.specs.Map.{keys_of, lookup}
use Rattle.std.proofs.lemmas.Bool.{and_parts, and_from, cases_lt, ltb-true, lt-ltb, le-ltb, le-leb, ne_eqb, eq-eqb}
use Rattle.std.proofs.lemmas.List.{length-append, length-map, length-set, map-append, map-set, get_or-map, set-get_or}
use Rattle.std.proofs.lemmas.List.Recursion.{and_at, and_push, and_set, and_fails_at, and_from_places, found_at, found_nowhere}
use Rattle.std.proofs.lemmas.List.Sorted.{searchable_from_sorted}
use Rattle.std.proofs.lemmas.Bool.Decides.{nat_tests}
use Rattle.std.proofs.lemmas.Option.{get_or_from_slice_get, slice_get-get_or, slice_get_within}
use Rattle.std.proofs.lemmas.Cmp.{nat_cmp_total, tied_itself}
use Rattle.std.specs.List.Sorted.{IsBinarySearchResult, IsSearchInRange, IsSortedBy}
use Rattle.std.specs.Ordering.{nat_cmp, is_lt}
use Rattle.std.specs.declared.cmp.Ordering.TheVariants.{Equal}
use Rattle.std.specs.Result.{result_ok}
use Rattle.job_sets.specs.Subset.{is_member, is_rising}
use Rattle.sag_time.specs.Interval.{Interval}
use Rattle.start_windows.specs.Ends.{HeldEnds, IsEnds, end_of, is_above}
use Rattle.lists.proofs.Orderings.{numbers_tie}

all_at : {X : Type 0} (p : X → Bool) (xs : List X) (i : ℕ) (d : X) → i < length xs → list_all p xs ≡ true → p (get_or xs i d) ≡ true
all_at p xs i d below all = and_at (list_all p) p refl (λ _ _. refl) xs i d below all

all_push : {X : Type 0} (p : X → Bool) (xs : List X) (y : X) → list_all p xs ≡ true → p y ≡ true → list_all p (xs ++ y ∷ []) ≡ true
all_push p xs y all last = and_push (list_all p) p refl (λ _ _. refl) xs y ∙ and_from (list_all p xs) (p y) all last

-- one more number, above all others
is_rising-push : (xs : List ℕ) (y : ℕ) → is_rising xs ≡ true → list_all (λ x. nat_lt x y) xs ≡ true → is_rising (xs ++ y ∷ []) ≡ true
is_rising-push [] y rising above = refl
is_rising-push (x ∷ xs) y rising above =
    let parts = and_parts (list_all (nat_lt x) xs) (is_rising xs) rising in
    let higher = and_parts (nat_lt x y) (list_all (λ z. nat_lt z y) xs) above in
    and_from (list_all (nat_lt x) (xs ++ y ∷ [])) (is_rising (xs ++ y ∷ [])) (all_push (nat_lt x) xs y parts.0 higher.0) (is_rising-push xs y parts.1 higher.1)

-- a number is below each later one
rises : (xs : List ℕ) (i k : ℕ) → is_rising xs ≡ true → i < k → k < length xs → get_or xs i 0 < get_or xs k 0
rises [] i k rising less below = absurd (omega (arith, below))
rises (x ∷ xs) i zero rising less below = absurd (omega (arith, less))
rises (x ∷ xs) zero (suc k) rising less below =
    let parts = and_parts (list_all (nat_lt x) xs) (is_rising xs) rising in
    ltb-true x (get_or xs k 0) (all_at (nat_lt x) xs k 0 (omega (arith, below)) parts.0)
rises (x ∷ xs) (suc i) (suc k) rising less below =
    let parts = and_parts (list_all (nat_lt x) xs) (is_rising xs) rising in
    rises xs i k parts.1 (omega (arith, less)) (omega (arith, below))

module _ (items : List (ℕ × Interval)) (rising : IsTrue (is_rising (keys_of items))) where
  count : length (keys_of items) ≡ length items
  count = length-map items (λ (e : ℕ × Interval). e.0)

  -- a number above the last is above all
  is_above-last : (j : ℕ) → (0 < length items → get_or (keys_of items) (length items - 1) 0 < j) → is_above j items ≡ true
  is_above-last j last =
      and_from_places (list_all (λ i. nat_lt i j)) (λ i. nat_lt i j) refl (λ _ _. refl) (keys_of items) 0
      (λ i below. lt-ltb (get_or (keys_of items) i 0) j (each i (omega (arith, below, count))))
    where
      each : (i : ℕ) → i < length items → get_or (keys_of items) i 0 < j
      each i below =
          elim (cases_lt i (length items - 1)) [
            | inl less ↦ omega (arith, rises (keys_of items) i (length items - 1) rising less (omega (arith, below, count)), last (omega (arith, below)))
            | inr past ↦ let e : i ≡ length items - 1 = omega (arith, below, past) in rw e (last (omega (arith, below)))
          ]

  -- a number that is not above one of them is not above all
  is_above-not : (j i : ℕ) → i < length items → j ≤ get_or (keys_of items) i 0 → is_above j items ≡ false
  is_above-not j i below le =
      and_fails_at (list_all (λ i. nat_lt i j)) (λ i. nat_lt i j) refl (λ _ _. refl) (keys_of items) i 0 (omega (arith, below, count)) (le-ltb (get_or (keys_of items) i 0) j le)

  -- a number is above all where it is above the last
  pub is_above-by_last : (j : ℕ) (last : ℕ × Interval) → slice_get items (length items - 1) ≡ Some last → is_lt (nat_cmp last.0 j) ≡ is_above j items
  is_above-by_last j last is =
      let place = length items - 1 in
      let below = slice_get_within items place last is in
      let own : get_or (keys_of items) place 0 ≡ last.0 = get_or-map (λ (e : ℕ × Interval). e.0) items place last 0 below ∙ ap (λ (e : ℕ × Interval). e.0) (get_or_from_slice_get items place last last is) in
      elim (cases_lt last.0 j) [
        | inl less ↦ let one : is_lt (nat_cmp last.0 j) ≡ true = grind (arith, nat_tests) in one ∙ sym (is_above-last j (λ some. omega (arith, own, less)))
        | inr past ↦ let one : is_lt (nat_cmp last.0 j) ≡ false = grind (arith, nat_tests) in one ∙ sym (is_above-not j place below (omega (arith, own, past)))
      ]

  -- the item at a place whose number is j
  end_of-found : (j i : ℕ) (e : ℕ × Interval) → i < length items → get_or items i e ≡ e → e.0 ≡ j → end_of items j ≡ Some e.1
  end_of-found j i e below here own =
      found_at (lookup (nat_eq j)) (λ d. nat_eq j d.0) (λ d. Some d.1) None refl (λ _ _. refl) items i e below before (rw here (eq-eqb j e.0 (sym own))) ∙ ap (λ (d : ℕ × Interval). Some d.1) here
    where
      before : (k : ℕ) → k < i → nat_eq j (get_or items k e).0 ≡ false
      before k less =
          let low : get_or (keys_of items) k 0 ≡ (get_or items k e).0 = get_or-map (λ (d : ℕ × Interval). d.0) items k e 0 (omega (arith, less, below)) in
          let high : get_or (keys_of items) i 0 ≡ e.0 = get_or-map (λ (d : ℕ × Interval). d.0) items i e 0 below ∙ ap (λ (d : ℕ × Interval). d.0) here in
          let up = rises (keys_of items) k i rising less (omega (arith, below, count)) in
          ne_eqb j (get_or items k e).0 (λ same. omega (arith, same, low, high, up, own))

  -- no item has the number j
  end_of-nowhere : (j : ℕ) (d : ℕ × Interval) → ((i : ℕ) → i < length items → (get_or items i d).0 ≢ j) → end_of items j ≡ None
  end_of-nowhere j d none =
      found_nowhere (lookup (nat_eq j)) (λ e. nat_eq j e.0) (λ e. Some e.1) None refl (λ _ _. refl) items d (λ i below. ne_eqb j (get_or items i d).0 (λ same. none i below (sym same)))

  in_order : IsSortedBy (λ a b. is_lt (nat_cmp a.0 b.0)) items
  in_order k d low below =
      let here : get_or (keys_of items) k 0 ≡ (get_or items k d).0 = get_or-map (λ (e : ℕ × Interval). e.0) items k d 0 (omega (arith, below)) in
      let next : get_or (keys_of items) (k + 1) 0 ≡ (get_or items (k + 1) d).0 = get_or-map (λ (e : ℕ × Interval). e.0) items (k + 1) d 0 below in
      let up : (get_or items k d).0 < (get_or items (k + 1) d).0 = omega (arith, here, next, rises (keys_of items) k (k + 1) rising (omega arith) (omega (arith, below, count))) in
      grind (arith, nat_tests)

  -- what a binary search by number finds
  pub end_of-searched : (j place : ℕ) (e : ℕ × Interval) (r : Result ℕ ℕ) → IsSearchInRange r (length items) → IsBinarySearchResult (λ d. nat_cmp d.0 j) items r → result_ok r ≡ Some place → get_or items place e ≡ e → end_of items j ≡ Some e.1
  end_of-searched j place e (Ok i) range searched is here =
      let same : i ≡ place = grind (arith, is) in
      let equal : nat_cmp (get_or items place e).0 j ≡ Equal = rw (sym same) (searched e) in
      let own : e.0 ≡ j = numbers_tie e.0 j (rw here at equal) in
      end_of-found j place e (omega (arith, same, range)) here own
  end_of-searched j place e (Err i) range searched is here = cc

  pub place-searched : (j place : ℕ) (r : Result ℕ ℕ) → IsSearchInRange r (length items) → IsBinarySearchResult (λ d. nat_cmp d.0 j) items r → result_ok r ≡ Some place →
      slice_get (keys_of items) place ≡ Some j
  place-searched j place (Ok i) range searched is =
      let none : ℕ × Interval = (0, record { lo = 0; hi = 0 }) in
      let same : i ≡ place = grind (arith, is) in
      let below : place < length items = omega (arith, same, range) in
      let equal : nat_cmp (get_or items place none).0 j ≡ Equal = rw (sym same) (searched none) in
      let own : get_or (keys_of items) place 0 ≡ j = get_or-map (λ (d : ℕ × Interval). d.0) items place none 0 below ∙ numbers_tie (get_or items place none).0 j equal in
      slice_get-get_or (keys_of items) place 0 (omega (arith, below, count)) ∙ ap Some own
  place-searched j place (Err i) range searched is = cc

  pub end_of-missed : (j : ℕ) (r : Result ℕ ℕ) → IsBinarySearchResult (λ d. nat_cmp d.0 j) items r → result_ok r ≡ None → end_of items j ≡ None
  end_of-missed j (Ok i) searched is = cc
  end_of-missed j (Err i) searched is =
      let parts = searched (searchable_from_sorted nat_cmp_total (λ (e : ℕ × Interval). e.0) items j in_order) in
      let none : ℕ × Interval = (0, record { lo = 0; hi = 0 }) in
      end_of-nowhere j none (λ k below same.
      elim (cases_lt k i) [
        | inl less ↦ let low = parts.0 k none (omega arith) less in let tied = equal_cmp (get_or items k none).0 j same in cc (low, tied)
        | inr past ↦ let high = parts.1 k none past below in let tied = equal_cmp (get_or items k none).0 j same in cc (high, tied)
      ])
    where
      equal_cmp : (a b : ℕ) → a ≡ b → nat_cmp a b ≡ Equal
      equal_cmp a b e = rw e (tied_itself nat_cmp_total b)

-- a job with an interval is listed
pub is_some-end_of : (ends : List (ℕ × Interval)) (i : ℕ) → is_some (end_of ends i) ≡ is_member i (keys_of ends)
is_some-end_of [] i = refl
is_some-end_of (e ∷ es) i = at (nat_eq i e.0) refl (is_some-end_of es i)
  where
    at : (b : Bool) → nat_eq i e.0 ≡ b → is_some (end_of es i) ≡ is_member i (keys_of es) → is_some (cond b (Some e.1) (end_of es i)) ≡ ((e.0 == i) || is_member i (keys_of es))
    at true is rest = let same : (e.0 == i) ≡ true = grind (arith, is) in sym (ap (λ b. b || is_member i (keys_of es)) same)
    at false is rest = let other : (e.0 == i) ≡ false = grind (arith, is) in rest ∙ sym (ap (λ b. b || is_member i (keys_of es)) other)

-- one more item, above all others, where there is room
pub IsEnds-push : (held : HeldEnds) (j room : ℕ) (span : Interval) → IsEnds held → IsTrue (is_above j held.items) → span.lo ≤ span.hi → length held.items < room → room < 2 ^ 16
    → IsEnds (record { items = held.items ++ (j, span) ∷ []; room = room })
IsEnds-push held j room span ends above order less fits = record {
  rising = rw (map-append (λ (e : ℕ × Interval). e.0) held.items ((j, span) ∷ [])) (is_rising-push (keys_of held.items) j ends.rising above);
  spans = all_push (λ (e : ℕ × Interval). nat_le e.1.lo e.1.hi) held.items (j, span) ends.spans (le-leb span.lo span.hi order);
  in_room = omega (arith, less, length-append held.items ((j, span) ∷ []));
  room_fits = fits;
}

-- another interval at a place
pub IsEnds-set : (held : HeldEnds) (i : ℕ) (e : ℕ × Interval) (span : Interval) → IsEnds held → i < length held.items → get_or held.items i e ≡ e → span.lo ≤ span.hi
    → IsEnds (record { items = set held.items i (e.0, span); room = held.room })
IsEnds-set held i e span ends below here order = record {
  rising = rw same_keys ends.rising;
  spans = and_set (list_all (λ e. nat_le e.1.lo e.1.hi)) (λ e. nat_le e.1.lo e.1.hi) refl (λ _ _. refl) held.items i (e.0, span) (le-leb span.lo span.hi order) ends.spans;
  in_room = omega (arith, ends.in_room, length-set held.items i (e.0, span));
  room_fits = ends.room_fits;
}
  where
    number : e.0 ≡ get_or (keys_of held.items) i 0
    number = ap (λ (d : ℕ × Interval). d.0) (sym here) ∙ sym (get_or-map (λ (d : ℕ × Interval). d.0) held.items i e 0 below)

    same_keys : keys_of (set held.items i (e.0, span)) ≡ keys_of held.items
    same_keys = map-set (λ (d : ℕ × Interval). d.0) held.items i (e.0, span) ∙ ap (set (keys_of held.items) i) number ∙ set-get_or (keys_of held.items) i 0
