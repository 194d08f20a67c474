-- How the counts of cores and the availabilities of a state go together, and that a start keeps this.
--     AreCertain m g high, ArePossible m g low      the two clauses of `Covers`, for g in place of the ends of the cores
--     certain-counts, certain-from_counts           the first says for every moment: no more places than cores
--     possible-counts, possible-from_counts         the second: no more cores than places
--     certain-cap_first                             a cap by which so many cores are free keeps the first
--     certain-step, possible-step                   a start on one core keeps them
use Rattle.std.proofs.Common.{◌≡◌, ◌≢◌, ℕ, ◌+◌, ◌-◌, ◌<◌, ◌≤◌, true, List, length, arith, ⊎_elim, max, min, get_or, sym, subst, ◌∙◌}
use Rattle.std.specs.Prelude.{nat_le, nat_lt, slice_index}
use Rattle.std.proofs.lemmas.Bool.{ltb-true, leb-true, le-leb, lt-ltb, le-ltb, cases_lt}
use Rattle.std.proofs.lemmas.List.Sums.{count_by-le-length}
use Rattle.sag_time.specs.Sorted.{is_sorted, after_start, cap_first}
use Rattle.sag_time.proofs.CapFirst.{cap_first-place}
use Rattle.sag_time.proofs.Counts.{one_if, one_if-le, one_if-true, one_if-mono}
use Rattle.sag_time.proofs.SortedCounts.{upto, below, upto-place, place-upto, below-place, place-below}
use Rattle.sag_time.proofs.SortedLists.{is_sorted-after_start, length-after_start}
use Rattle.sag_time.proofs.StartCounts.{upto-after_start, below-after_start}
use Rattle.run_cover.specs.Covers.{cores_where}
use Rattle.run_cover.proofs.CoreCounts.{one_core_changes, counted, cores_where-mono, cores_where-none, cores_where-le}

-- ---- for every moment in place of every place

module _ (m : ℕ) (g : ℕ → ℕ) where
  -- at least x cores have g at most the x-th number
  abbrev pub AreCertain : List ℕ → Type 0
  AreCertain high = (x : ℕ) → x < m → x < cores_where m (λ core. nat_le (g core) (slice_index high x))

  -- fewer than x cores have g before the x-th number
  abbrev pub ArePossible : List ℕ → Type 0
  ArePossible low = (x : ℕ) → x < m → cores_where m (λ core. nat_lt (g core) (slice_index low x)) ≤ x

  pub certain-counts : (high : List ℕ) → length high ≡ m → is_sorted high ≡ true → AreCertain high → (v : ℕ) → upto v high ≤ cores_where m (λ core. nat_le (g core) v)
  certain-counts high long sorted certain v = ⊎_elim
      (λ (some : 0 < upto v high).
      let x = upto v high - 1 in
      let early : get_or high x 0 ≤ v = place-upto v high x sorted (omega (arith, some)) in
      let few : upto v high ≤ length high = count_by-le-length (λ t. nat_le t v) high in
      let many : x < cores_where m (λ core. nat_le (g core) (get_or high x 0)) = certain x (omega (arith, few, long, some)) in
      let more : cores_where m (λ core. nat_le (g core) (get_or high x 0)) ≤ cores_where m (λ core. nat_le (g core) v) =
      cores_where-mono m (λ core. nat_le (g core) (get_or high x 0)) (λ core. nat_le (g core) v)
      (λ core e. le-leb (g core) v (omega (arith, early, leb-true (g core) (get_or high x 0) e))) in
      omega (arith, many, more, some))
      (λ (none : upto v high ≤ 0). omega (arith, none))
      (cases_lt 0 (upto v high))

  pub certain-from_counts : (high : List ℕ) → length high ≡ m → is_sorted high ≡ true → ((v : ℕ) → upto v high ≤ cores_where m (λ core. nat_le (g core) v)) → AreCertain high
  certain-from_counts high long sorted counts x h =
      let v = get_or high x 0 in
      let place : x < upto v high = upto-place high x sorted (omega (arith, h, long)) in
      omega (arith, place, counts v)

  pub possible-counts : (low : List ℕ) → length low ≡ m → is_sorted low ≡ true → ArePossible low → (v : ℕ) → cores_where m (λ core. nat_lt (g core) v) ≤ below v low
  possible-counts low long sorted possible v = ⊎_elim
      (λ (fewer : below v low < m).
      let x = below v low in
      let late : v ≤ get_or low x 0 = place-below v low x sorted (omega (arith, fewer, long)) (omega arith) in
      let few : cores_where m (λ core. nat_lt (g core) (get_or low x 0)) ≤ x = possible x fewer in
      let more : cores_where m (λ core. nat_lt (g core) v) ≤ cores_where m (λ core. nat_lt (g core) (get_or low x 0)) =
      cores_where-mono m (λ core. nat_lt (g core) v) (λ core. nat_lt (g core) (get_or low x 0))
      (λ core e. lt-ltb (g core) (get_or low x 0) (omega (arith, late, ltb-true (g core) v e))) in
      omega (arith, few, more))
      (λ (all : m ≤ below v low). omega (arith, all, cores_where-le m (λ core. nat_lt (g core) v)))
      (cases_lt (below v low) m)

  pub possible-from_counts : (low : List ℕ) → length low ≡ m → is_sorted low ≡ true → ((v : ℕ) → cores_where m (λ core. nat_lt (g core) v) ≤ below v low) → ArePossible low
  possible-from_counts low long sorted counts x h =
      let v = get_or low x 0 in
      let place : below v low ≤ x = below-place low x sorted (omega (arith, h, long)) in
      omega (arith, place, counts v)

-- where n cores are free by the cap, the capped list is certain
pub certain-cap_first : (m : ℕ) (g : ℕ → ℕ) (low : List ℕ) (n cap : ℕ) (high : List ℕ) → n ≤ cores_where m (λ core. nat_le (g core) cap) → AreCertain m g high → AreCertain m g (cap_first low n cap high)
certain-cap_first m g low n cap high some certain x below =
    let v = get_or (cap_first low n cap high) x 0 in
    let h = get_or high x 0 in
    ⊎_elim
    (λ (same : v ≡ h). subst (λ t. x < cores_where m (λ core. nat_le (g core) t)) (sym same) (certain x below))
    (λ (less : (x < n) × (min h cap ≤ v)). ⊎_elim
    (λ (by_cap : cap < h).
    let more : cores_where m (λ core. nat_le (g core) cap) ≤ cores_where m (λ core. nat_le (g core) v) =
    cores_where-mono m (λ core. nat_le (g core) cap) (λ core. nat_le (g core) v) (λ core e. le-leb (g core) v (omega (arith, leb-true (g core) cap e, less.1, by_cap))) in
    omega (arith, more, some, less.0))
    (λ (by_high : h ≤ cap).
    let more : cores_where m (λ core. nat_le (g core) h) ≤ cores_where m (λ core. nat_le (g core) v) =
    cores_where-mono m (λ core. nat_le (g core) h) (λ core. nat_le (g core) v) (λ core e. le-leb (g core) v (omega (arith, leb-true (g core) h e, less.1, by_high))) in
    let here : x < cores_where m (λ core. nat_le (g core) h) = certain x below in
    omega (arith, more, here))
    (cases_lt cap h))
    (cap_first-place low n cap high x)

-- ---- a job starts on core d, and the ends of the other cores stay

module _ (m d : ℕ) (e f : ℕ → ℕ) (is_core : d < m) (others : (c : ℕ) → c ≢ d → f c ≡ e c) where
  long_after : (floor end : ℕ) (xs : List ℕ) → length xs ≡ m → length (after_start floor end xs) ≡ m
  long_after floor end xs long = length-after_start floor end xs (omega (arith, is_core, long)) ∙ long

  pub certain-step : (floor end : ℕ) (high : List ℕ) → length high ≡ m → is_sorted high ≡ true → f d ≤ end → AreCertain m e high → AreCertain m f (after_start floor end high)
  certain-step floor end high long sorted by_end certain =
      certain-from_counts m f (after_start floor end high) (long_after floor end high long) (is_sorted-after_start floor end high sorted) (λ v.
      let p = λ (c : ℕ). nat_le (e c) v in
      let q = λ (c : ℕ). nat_le (f c) v in
      let counts : upto v high ≤ cores_where m p = certain-counts m e high long sorted certain v in
      let after : upto v (after_start floor end high) ≤ one_if (nat_le end v) + (upto v high - 1) = upto-after_start floor end v high sorted in
      let change : cores_where m p + one_if (q d) ≤ cores_where m q + one_if (p d) =
      one_core_changes m d q p is_core (λ c other yes. le-leb (f c) v (omega (arith, others c other, leb-true (e c) v yes))) in
      let finished : one_if (nat_le end v) ≤ one_if (q d) =
      one_if-mono (nat_le end v) (q d) (λ yes. le-leb (f d) v (omega (arith, by_end, leb-true end v yes))) in
      let itself : one_if (q d) ≤ cores_where m q = counted m d q is_core in
      omega (arith, counts, after, change, finished, one_if-le (p d), itself))

  pub possible-step : (s start floor end : ℕ) (low : List ℕ) → length low ≡ m → is_sorted low ≡ true → s ≤ start → e d ≤ start → floor ≤ start → end ≤ f d →
      ArePossible m (λ c. max (e c) s) low → ArePossible m (λ c. max (f c) start) (after_start floor end low)
  possible-step s start floor end low long sorted no_later idle after_floor by_end possible =
      possible-from_counts m (λ c. max (f c) start) (after_start floor end low) (long_after floor end low long) (is_sorted-after_start floor end low sorted) (λ v. ⊎_elim
      (λ (after : start < v).
      let p = λ (c : ℕ). nat_lt (max (e c) s) v in
      let q = λ (c : ℕ). nat_lt (max (f c) start) v in
      let counts : cores_where m p ≤ below v low = possible-counts m (λ c. max (e c) s) low long sorted possible v in
      let more : one_if (nat_lt end v) + below v low ≤ below v (after_start floor end low) + 1 = below-after_start floor end v low (omega (arith, after_floor, after)) in
      let change : cores_where m q + one_if (p d) ≤ cores_where m p + one_if (q d) =
      one_core_changes m d p q is_core (λ c other yes.
      let sooner : max (f c) start < v = ltb-true (max (f c) start) v yes in
      lt-ltb (max (e c) s) v (omega (arith, others c other, sooner, no_later))) in
      let free : one_if (p d) ≡ 1 = one_if-true (p d) (lt-ltb (max (e d) s) v (omega (arith, idle, no_later, after))) in
      let finished : one_if (q d) ≤ one_if (nat_lt end v) = one_if-mono (q d) (nat_lt end v) (λ yes.
      let sooner : max (f d) start < v = ltb-true (max (f d) start) v yes in
      lt-ltb end v (omega (arith, by_end, sooner))) in
      omega (arith, counts, more, change, free, finished))
      (λ (before : v ≤ start).
      omega (arith, cores_where-none m (λ c. nat_lt (max (f c) start) v) (λ c. le-ltb (max (f c) start) v (omega (arith, before)))))
      (cases_lt start v))
