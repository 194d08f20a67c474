-- The jobs of a set, seen number by number, and the jobs before a job in the order of dispatch.
--     greatest-more        the greatest value of those that pass, with one number more
--     seen-whole           the members below the size of a set are all its members
--     first_by_count       a job is among the first where fewer than so many come before it
use Rattle.std.proofs.Common.{◌≡◌, ℕ, zero, suc, ◌+◌, ◌<◌, ◌≤◌, Bool, true, false, cond, List, [], ◌∷◌, ◌++◌, length, map, filter, take, get_or, refl, ap, arith, inl, inr, ◌⊎◌, sym, ◌∙◌, subst, max, append-nil}
use Rattle.std.specs.Prelude.{nat_lt, ◌&&◌}
use Rattle.std.specs.List.{AllByRecursion, count_by}
use Rattle.std.proofs.lemmas.Bool.{cases_lt, false≢true, false_from_ne_true, le-ltb, lt-ltb, ltb-true}
use Rattle.std.proofs.lemmas.List.{get_or-take, get_or_default, length-append, length-take}
use Rattle.std.proofs.lemmas.List.Sums.{length-filter}
use Rattle.std.proofs.lemmas.List.Elements.{filter-append}
use Rattle.std.proofs.lemmas.List.Recursion.{max_push}
use Rattle.std.proofs.lemmas.List.Sorted.{sum_by-IsPermutation}
use Rattle.job_sets.specs.Subset.{Subset, IsSubset, is_member}
use Rattle.job_sets.proofs.Additions.{same_members}
use Rattle.job_sets.proofs.Filters.{is_member-of_filter, is_rising-filter}
use Rattle.job_sets.proofs.Members.{is_member-at, Contains-from_member, is_member-range, list_all-member}
use Rattle.lists.specs.Numbers.{greatest, numbers_below}
use Rattle.lists.proofs.Ranges.{numbers_more}
use Rattle.job_model.specs.Table.{Table, IsTable}
use Rattle.run_meaning.specs.declared.places.Place.{Place}
use Rattle.run_meaning.specs.Order.{dispatch_order, starts_earlier}
use Rattle.run_meaning.proofs.OrderLaws.{length-dispatch_order}
use Rattle.run_meaning.proofs.OrderMembers.{dispatch_permutation, placed}
use Rattle.lists.proofs.SortedBy.{InOrder}
use Rattle.run_meaning.proofs.Sorted.{dispatch_sorted, earlier_one_way, in_order}
use Rattle.sag_time.proofs.Counts.{one_if, count_by-cons, one_if-false, one_if-true}
use Rattle.sag_step.proofs.ListsOfEnds.{is_rising-range}
use Rattle.run_cover.specs.Covers.{prefix}

-- ---- one number more

module _ (f : ℕ → ℕ) (p : ℕ → Bool) (k : ℕ) where
  abbrev greatest_below : ℕ → ℕ
  greatest_below n = greatest (map f (filter p (numbers_below n)))

  pub greatest-more : greatest (map f (filter p (numbers_below (k + 1)))) ≡ cond (p k) (max (f k) (greatest (map f (filter p (numbers_below k))))) (greatest (map f (filter p (numbers_below k))))
  greatest-more =
      ap (λ xs. greatest (map f (filter p xs))) (numbers_more k) ∙ ap (λ xs. greatest (map f xs)) (filter-append p (numbers_below k) (k ∷ [])) ∙ at (p k)
    where
      either : (a b : ℕ) → max a b ≡ max b a
      either a b = omega arith

      at : (b : Bool) → greatest (map f (filter p (numbers_below k) ++ cond b (k ∷ []) [])) ≡ cond b (max (f k) (greatest (map f (filter p (numbers_below k))))) (greatest (map f (filter p (numbers_below k))))
      at true = max_push (λ xs. greatest (map f xs)) f refl (λ x xs. refl) (filter p (numbers_below k)) k ∙ either (greatest (map f (filter p (numbers_below k)))) (f k)
      at false = ap (λ xs. greatest (map f xs)) (append-nil (filter p (numbers_below k)))

-- how many pass, with one number more
pub count-more : (p : ℕ → Bool) (k : ℕ) → count_by p (numbers_below (k + 1)) ≡ count_by p (numbers_below k) + one_if (p k)
count-more p k =
    let whole : filter p (numbers_below (k + 1)) ≡ filter p (numbers_below k) ++ filter p (k ∷ []) = ap (filter p) (numbers_more k) ∙ filter-append p (numbers_below k) (k ∷ []) in
    omega (arith, ap length whole, length-append (filter p (numbers_below k)) (filter p (k ∷ [])), length-filter p (numbers_below (k + 1)), length-filter p (numbers_below k), one (p k))
  where
    one : (b : Bool) → length (cond b (k ∷ []) []) ≡ one_if b
    one true = refl
    one false = refl

pub count-yes : (p : ℕ → Bool) (k n : ℕ) → n ≡ count_by p (numbers_below k) → p k ≡ true → n + 1 ≡ count_by p (numbers_below (k + 1))
count-yes p k n is passes = omega (arith, is, count-more p k, one_if-true (p k) passes)

pub count-no : (p : ℕ → Bool) (k n : ℕ) → n ≡ count_by p (numbers_below k) → p k ≡ false → n ≡ count_by p (numbers_below (k + 1))
count-no p k n is fails = omega (arith, is, count-more p k, one_if-false (p k) fails)

-- the members below the size
pub seen-whole : (s : Subset) → IsSubset s → filter (λ k. is_member k s.members) (numbers_below s.size) ≡ s.members
seen-whole s is = same_members (filter (λ k. is_member k s.members) (numbers_below s.size)) s.members
    (is_rising-filter (λ k. is_member k s.members) (numbers_below s.size) (is_rising-range 0 s.size)) is.rising
    (λ k. is_member-of_filter (λ k. is_member k s.members) (numbers_below s.size) k ∙ at k (is_member k s.members) refl)
  where
    at : (k : ℕ) (b : Bool) → is_member k s.members ≡ b → (b && is_member k (numbers_below s.size)) ≡ b
    at k true there =
        let below : k < s.size = ltb-true k s.size (list_all-member (λ j. nat_lt j s.size) s.members k is.in_range there) in
        is_member-range 0 s.size k (omega arith) (omega (arith, below))
    at k false out = refl

-- ---- the jobs before a job

module _ (lt : ℕ → ℕ → Bool) (one_way : (x y : ℕ) → lt x y ≡ true → lt y x ≡ false) where
  not_itself : (x : ℕ) → lt x x ≡ false
  not_itself x = false_from_ne_true (lt x x) (λ h. false≢true (sym (one_way x x h) ∙ h))

  none_before : (x : ℕ) (xs : List ℕ) → AllByRecursion (λ y. lt x y ≡ true) xs → count_by (λ i. lt i x) xs ≡ 0
  none_before x [] all = refl
  none_before x (y ∷ ys) all = omega (arith, count_by-cons (λ i. lt i x) y ys, one_if-false (lt y x) (one_way x y all.0), none_before x ys all.1)

  after_first : (x : ℕ) (xs : List ℕ) (k : ℕ) → AllByRecursion (λ y. lt x y ≡ true) xs → k < length xs → lt x (get_or xs k 0) ≡ true
  after_first x [] k all below = absurd (omega (arith, below))
  after_first x (y ∷ ys) zero all below = all.0
  after_first x (y ∷ ys) (suc k) all below = after_first x ys k all.1 (omega (arith, below))

  -- of a list in order, as many come before the item at a place
  count_before : (xs : List ℕ) (k : ℕ) → InOrder lt xs → k < length xs → count_by (λ i. lt i (get_or xs k 0)) xs ≡ k
  count_before [] k order below = absurd (omega (arith, below))
  count_before (x ∷ xs) zero order below = omega (arith, count_by-cons (λ i. lt i x) x xs, one_if-false (lt x x) (not_itself x), none_before x xs order.0)
  count_before (x ∷ xs) (suc k) order below =
      omega (arith, count_by-cons (λ i. lt i (get_or xs k 0)) x xs, one_if-true (lt x (get_or xs k 0)) (after_first x xs k order.0 (omega (arith, below))), count_before xs k order.1 (omega (arith, below)))

module _ (table : Table) (schedule : List Place) (is_table : IsTable table) (count : ℕ) (fits : count ≤ length table.jobs) where
  abbrev order : List ℕ
  order = dispatch_order table schedule

  long : length order ≡ length table.jobs
  long = length-dispatch_order table schedule

  -- the place of one of the first jobs
  early_place : (i : ℕ) → is_member i (take count order) ≡ true → (k : ℕ) × (k < count) × (get_or order k 0 ≡ i)
  early_place i there =
      let found = Contains-from_member i (take count order) there in
      let less : found.0 < count = omega (arith, found.1, length-take count order) in
      (found.0, less, get_or_default order found.0 0 i (omega (arith, less, fits, long)) ∙ sym (get_or-take count order found.0 i less) ∙ found.2)

  member-early : (i k : ℕ) → k < count → get_or order k 0 ≡ i → is_member i (take count order) ≡ true
  member-early i k less is =
      subst (λ x. is_member x (take count order) ≡ true) (get_or-take count order k 0 less ∙ is) (is_member-at (take count order) k 0 (omega (arith, less, fits, long, length-take count order)))

  -- a job is among the first where fewer than so many come before it
  pub first_by_count : (j : ℕ) → j < length table.jobs → nat_lt (count_by (λ i. starts_earlier table schedule i j) (numbers_below (length table.jobs))) count ≡ is_member j (prefix table schedule count)
  first_by_count j below =
      let p = placed table schedule j below in
      let sums : count_by (λ i. starts_earlier table schedule i j) (numbers_below (length table.jobs)) ≡ count_by (λ i. starts_earlier table schedule i j) order =
      sym (sum_by-IsPermutation (λ i. one_if (starts_earlier table schedule i j)) (numbers_below (length table.jobs)) order (dispatch_permutation table schedule)) in
      let before : count_by (λ i. starts_earlier table schedule i (get_or order p.at 0)) order ≡ p.at =
      count_before (starts_earlier table schedule) (earlier_one_way table schedule) order p.at (in_order table schedule is_table) (omega (arith, p.below, long)) in
      ap (λ n. nat_lt n count) (sums ∙ ap (λ x. count_by (λ i. starts_earlier table schedule i x) order) (sym p.is) ∙ before) ∙ at p.at p.is p.below (cases_lt p.at count)
    where
      at : (k : ℕ) → get_or order k 0 ≡ j → k < length table.jobs → (k < count) ⊎ (count ≤ k) → nat_lt k count ≡ is_member j (take count order)
      at k is within (inl less) = lt-ltb k count less ∙ sym (member-early j k less is)
      at k is within (inr past) = le-ltb k count past ∙ sym (false_from_ne_true (is_member j (take count order)) (λ there.
          let e = early_place j there in
          let earlier : starts_earlier table schedule (get_or order e.0 0) (get_or order k 0) ≡ true = dispatch_sorted table schedule is_table e.0 k 0 (omega (arith, e.1, past)) within in
          let itself : starts_earlier table schedule j j ≡ true = subst (λ x. starts_earlier table schedule x j ≡ true) e.2 (subst (λ x. starts_earlier table schedule (get_or order e.0 0) x ≡ true) is earlier) in
          false≢true (sym (earlier_one_way table schedule j j itself) ∙ itself)))
