-- The order of the jobs by release: a sort finds it, and it has all jobs by rising release.
use Rattle.std.proofs.Common.{◌≡◌, ◌≢◌, ℕ, ◌<◌, ◌≤◌, ◌⊎◌, inl, inr, true, List, length, map, get_or, refl, sym, ap, ◌∙◌, arith}
use Rattle.std.specs.Prelude.{IsPermutation}
use Rattle.std.specs.List.{AllByRecursion}
use Rattle.std.specs.Cmp.{IsTotalOrder, then_total, on_total, nat_cmp_total}
use Rattle.std.specs.declared.cmp.Ordering.{Ordering}
use Rattle.std.specs.declared.cmp.Ordering.TheVariants.{Less}
use Rattle.std.specs.List.Sorted.{IsSortedBy}
use Rattle.std.specs.Ordering.{is_lt, nat_cmp, ordering_then}
use Rattle.std.proofs.Math.Path.{fun_ext}
use Rattle.std.proofs.lemmas.Bool.{cases_eq, cases_order}
use Rattle.std.proofs.lemmas.List.{get_or-map, length-map, map-id}
use Rattle.std.proofs.lemmas.List.FromFn.{length-range_with_len}
use Rattle.std.proofs.lemmas.List.Sorted.{IsPermutation-map, IsPermutation-sym, IsPermutation-trans}
use Rattle.std.proofs.lemmas.Simd.{map-map}
use Rattle.lists.specs.Numbers.{numbers_below}
use Rattle.lists.specs.Sorting.{sorted_by}
use Rattle.lists.proofs.Elements.{range-below, recursion_at}
use Rattle.lists.proofs.OneOrder.{sorted_is}
use Rattle.lists.proofs.Orderings.{is_Less}
use Rattle.lists.proofs.SortedBy.{InOrder, IsPermutation-sorted_by, IsStrictlySortedBy-map, all-sorted_by, length-sorted_by, order-sorted_by, order_at, ranked_range, strictly}
use Rattle.job_model.specs.Releases.{IsReleaseOrder, release_cmp, release_order}
use Rattle.job_model.specs.Table.{Table, job_at}

-- the order of two entries
abbrev pub entry_cmp : ℕ × ℕ → ℕ × ℕ → Ordering
entry_cmp a b = ordering_then (nat_cmp a.0 b.0) (nat_cmp a.1 b.1)

entry_total : IsTotalOrder entry_cmp
entry_total = then_total (on_total (λ (e : ℕ × ℕ). e.0) nat_cmp_total) (on_total (λ (e : ℕ × ℕ). e.1) nat_cmp_total)

module _ (table : Table) where
  release_total : IsTotalOrder (release_cmp table)
  release_total = then_total (on_total (λ j. (job_at table j).rmin) nat_cmp_total) nat_cmp_total

  abbrev entry_of : ℕ → ℕ × ℕ
  entry_of j = ((job_at table j).rmin, j)

  abbrev numbers : List ℕ
  numbers = numbers_below (length table.jobs)

  abbrev sorted : List ℕ
  sorted = sorted_by (λ i j. is_lt (release_cmp table i j)) numbers

  trans : (i j k : ℕ) → is_lt (release_cmp table i j) ≡ true → is_lt (release_cmp table j k) ≡ true → is_lt (release_cmp table i k) ≡ true
  trans i j k p q = ap is_lt (release_total.trans i j k (is_Less _ p) (is_Less _ q))

  -- of two numbers the smaller is first, or it is released later
  smaller_or_later : (i j : ℕ) → i < j → (is_lt (release_cmp table i j) ≡ true) ⊎ (is_lt (release_cmp table j i) ≡ true)
  smaller_or_later i j less = by (cases_order (job_at table i).rmin (job_at table j).rmin)
    where
      before : (x y : ℕ) (o : Ordering) → x < y → is_lt (ordering_then (nat_cmp x y) o) ≡ true
      before x y o h = grind arith

      tied : (x y : ℕ) → x ≡ y → is_lt (ordering_then (nat_cmp x y) (nat_cmp i j)) ≡ true
      tied x y e = grind arith

      by : ((job_at table i).rmin ≡ (job_at table j).rmin) ⊎ (((job_at table i).rmin < (job_at table j).rmin) ⊎ ((job_at table j).rmin < (job_at table i).rmin)) →
          (is_lt (release_cmp table i j) ≡ true) ⊎ (is_lt (release_cmp table j i) ≡ true)
      by (inl e) = inl (tied (job_at table i).rmin (job_at table j).rmin e)
      by (inr (inl h)) = inl (before (job_at table i).rmin (job_at table j).rmin (nat_cmp i j) h)
      by (inr (inr h)) = inr (before (job_at table j).rmin (job_at table i).rmin (nat_cmp j i) h)

  in_order : InOrder (λ i j. is_lt (release_cmp table i j)) sorted
  in_order = order-sorted_by (λ i j. is_lt (release_cmp table i j)) trans numbers
      (ranked_range (λ i j. is_lt (release_cmp table i j)) 0 (length table.jobs) (λ x y from less below. smaller_or_later x y less))

  all_jobs : AllByRecursion (λ j. j < length table.jobs) sorted
  all_jobs = all-sorted_by (λ i j. is_lt (release_cmp table i j)) (λ j. j < length table.jobs) numbers (range-below 0 (length table.jobs) (length table.jobs) (omega arith))

  -- all jobs with their releases, when they are sorted
  pub release_order-sorted : (order : List (ℕ × ℕ)) → IsPermutation (map entry_of numbers) order → IsSortedBy (λ a b. is_lt (entry_cmp a b)) order → order ≡ release_order table
  unfolding release_order
  release_order-sorted order moved up =
      sorted_is entry_total (map entry_of sorted) order
      (IsStrictlySortedBy-map entry_of (release_cmp table) entry_cmp (λ j. j < length table.jobs) (λ i j li lj e. e) sorted all_jobs (strictly (release_cmp table) sorted in_order))
      (IsPermutation-trans (map entry_of sorted) (map entry_of numbers) order
      (IsPermutation-sym (map entry_of numbers) (map entry_of sorted) (IsPermutation-map entry_of numbers sorted (IsPermutation-sorted_by (λ i j. is_lt (release_cmp table i j)) numbers))) moved)
      up

  not_later : (i j : ℕ) → release_cmp table i j ≡ Less → (job_at table i).rmin ≤ (job_at table j).rmin
  not_later i j e = by (cases_order (job_at table i).rmin (job_at table j).rmin)
    where
      after : (x y : ℕ) (o : Ordering) → y < x → ordering_then (nat_cmp x y) o ≡ Less → x ≤ y
      after x y o h f = grind arith

      by : ((job_at table i).rmin ≡ (job_at table j).rmin) ⊎ (((job_at table i).rmin < (job_at table j).rmin) ⊎ ((job_at table j).rmin < (job_at table i).rmin)) → (job_at table i).rmin ≤ (job_at table j).rmin
      by (inl same) = omega (arith, same)
      by (inr (inl h)) = omega (arith, h)
      by (inr (inr h)) = after (job_at table i).rmin (job_at table j).rmin (nat_cmp i j) h e

  count : length (map entry_of sorted) ≡ length table.jobs
  count = length-map sorted entry_of ∙ length-sorted_by (λ i j. is_lt (release_cmp table i j)) numbers ∙ length-range_with_len 0 (length table.jobs)

  at : (k : ℕ) (d : ℕ × ℕ) → k < length (map entry_of sorted) → get_or (map entry_of sorted) k d ≡ entry_of (get_or sorted k 0)
  at k d below = get_or-map entry_of sorted k 0 d (omega (arith, below, length-map sorted entry_of))

  is_job : (k : ℕ) → k < length sorted → get_or sorted k 0 < length table.jobs
  is_job k below = recursion_at (λ j. j < length table.jobs) sorted k 0 all_jobs below

  rising_at : (i j : ℕ) → (i ≡ j) ⊎ (i ≢ j) → i ≤ j → j < length sorted → (job_at table (get_or sorted i 0)).rmin ≤ (job_at table (get_or sorted j 0)).rmin
  rising_at i j (inl e) le below = let same = ap (λ k. (job_at table (get_or sorted k 0)).rmin) e in omega (arith, same)
  rising_at i j (inr differ) le below =
      let less : i < j = omega (arith, le, differ) in
      not_later (get_or sorted i 0) (get_or sorted j 0) (is_Less _ (order_at (λ i j. is_lt (release_cmp table i j)) sorted i j 0 in_order less below))

  pub IsReleaseOrder-is : IsReleaseOrder table (release_order table)
  unfolding release_order
  IsReleaseOrder-is = record {
    each_job = rw (map-map (λ (e : ℕ × ℕ). e.1) entry_of sorted ∙ map-id sorted) (IsPermutation-sorted_by (λ i j. is_lt (release_cmp table i j)) numbers);
    own = λ k d below.
        let same = at k d below in
        (ap (λ (e : ℕ × ℕ). e.0) same ∙ sym (ap (λ (e : ℕ × ℕ). (job_at table e.1).rmin) same), omega (arith, ap (λ (e : ℕ × ℕ). e.1) same, is_job k (omega (arith, below, length-map sorted entry_of))));
    rising = λ i j d le below.
        let first = at i d (omega (arith, le, below)) in
        let second = at j d below in
        omega (arith, ap (λ (e : ℕ × ℕ). e.0) first, ap (λ (e : ℕ × ℕ). e.0) second, rising_at i j (cases_eq i j) le (omega (arith, below, length-map sorted entry_of)));
  }

-- the order of a table with these releases
abbrev releases_in_order : (ℕ → ℕ) → ℕ → List (ℕ × ℕ)
releases_in_order rmin n = map (λ j. (rmin j, j)) (sorted_by (λ i j. is_lt (ordering_then (nat_cmp (rmin i) (rmin j)) (nat_cmp i j))) (numbers_below n))

-- tables with as many jobs and the same releases have one order
pub release_order-same : (one other : Table) → length one.jobs ≡ length other.jobs → ((j : ℕ) → (job_at one j).rmin ≡ (job_at other j).rmin) → release_order one ≡ release_order other
unfolding release_order
release_order-same one other long same =
    ap (λ n. releases_in_order (λ j. (job_at one j).rmin) n) long ∙ ap (λ f. releases_in_order f (length other.jobs)) (fun_ext same)
