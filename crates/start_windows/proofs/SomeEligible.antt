-- Where some job is a candidate, some job is eligible: the most urgent of those that may start no later than some job certainly does.
use Rattle.std.proofs.Common.{◌≡◌, ◌∙◌, ℕ, ◌<◌, ◌≤◌, ◌⊎◌, inl, inr, Bool, true, false, ◌&&◌, cond, not, ltb, List, [], ◌∷◌, length, map, get_or, max, min, Option, zero, suc, nat_eq, Some, None, IsTrue, refl, sym, ap, arith}
use Rattle.std.specs.Prelude.{filter, ◌==◌, nat_le, unwrap_or, IsSome}
use Rattle.std.specs.List.{AllByRecursion, list_all}
use Rattle.std.specs.Map.{lookup}
use Rattle.std.specs.Option.{is_some, option_map_or}
use Rattle.std.proofs.lemmas.Bool.{and_parts, and_from, cases_Bool, cases_lt, cond-true, false_from_ne_true, not-false, lt-ltb, ltb-true, le-leb, leb-true, leb-false, eqb-true, not_from_false, or_cases, both_ways}
use Rattle.std.proofs.lemmas.List.{get_or_past}
use Rattle.std.proofs.lemmas.List.Elements.{All-get_or, filter_passes, recursion_from_All}
use Rattle.std.proofs.lemmas.List.FromFn.{get_or-range_with_len, length-range_with_len}
use Rattle.job_sets.specs.Subset.{is_member}
use Rattle.lists.specs.Numbers.{greatest, least, numbers_below}
use Rattle.job_model.specs.Table.{Table, IsJob, IsTable, has_urgency_over, job_at, no_job, predecessors}
use Rattle.job_model.proofs.Undispatched.{first_undispatched}
use Rattle.job_model.proofs.UrgencyLaws.{urgent_itself, urgent-trans, urgent_one_way}
use Rattle.sag_time.specs.Interval.{Interval}
use Rattle.start_windows.specs.declared.StartWindow.{StartWindow}
use Rattle.start_windows.specs.Ends.{low_end, high_end}
use Rattle.start_windows.specs.Laws.{SomeJobIsEligible}
use Rattle.start_windows.specs.Window.{is_candidate, candidates, earliest_ready, latest_ready, earliest_start, certain_start, ready_beside, overtaken_from, is_before, last_before, start_window}

-- ---- choices from a list

-- a number whose value is the least of all, if there is one
pub least_of : (P : ℕ → Type 0) (f : ℕ → ℕ) (xs : List ℕ) → AllByRecursion P xs → (xs ≡ []) ⊎ ((x : ℕ) × P x × (least (map f xs) ≡ Some (f x)))
least_of P f [] all = inl refl
least_of P f (x ∷ xs) all = elim (least_of P f xs all.1) [
  | inl none ↦ inr (x, all.0, rw none refl)
  | inr rest ↦
      let (y, kept, is) = rest in
      let both : least (map f (x ∷ xs)) ≡ Some (min (f x) (f y)) = rw is refl in
      elim (cases_lt (f x) (f y)) [
        | inl less ↦ let first : min (f x) (f y) ≡ f x = omega (arith, less) in inr (x, all.0, both ∙ ap Some first)
        | inr more ↦ let second : min (f x) (f y) ≡ f y = omega (arith, more) in inr (y, kept, both ∙ ap Some second)
      ]
]

module _ (P : ℕ → Type 0) (p : ℕ → Bool) (before : ℕ → ℕ → Bool) (itself : (x : ℕ) → before x x ≡ false)
    (trans : (x y z : ℕ) → before x y ≡ true → before y z ≡ true → before x z ≡ true) (one_way : (x y : ℕ) → before x y ≡ true → before y x ≡ false) where
  -- r passes, none of those that pass comes before it, and it is b or comes before b
  record IsFirst (b : ℕ) (xs : List ℕ) (r : ℕ) : Type 0 where
    kept : P r
    passes : p r ≡ true
    is : (r ≡ b) ⊎ (before r b ≡ true)
    none : AllByRecursion (λ x. p x ≡ true → before x r ≡ false) xs

  -- b does not come before r
  not_before : (b r : ℕ) → (r ≡ b) ⊎ (before r b ≡ true) → before b r ≡ false
  not_before b r (inl same) = rw same (itself b)
  not_before b r (inr first) = one_way r b first

  first_of_passing : (b : ℕ) (xs : List ℕ) → P b → p b ≡ true → AllByRecursion P xs → (r : ℕ) × IsFirst b xs r
  first_of_passing b [] kept passes all = (b, record { kept = kept; passes = passes; is = inl refl; none = tt })
  first_of_passing b (x ∷ xs) kept passes all = elim (cases_Bool (p x && before x b)) [
    | inl earlier ↦
        let parts = and_parts (p x) (before x b) earlier in
        let (r, first) = first_of_passing x xs all.0 parts.0 all.1 in
        let is : (r ≡ b) ⊎ (before r b ≡ true) = elim first.is [ inl same ↦ inr (rw same parts.1) | inr sooner ↦ inr (trans r x b sooner parts.1) ] in
        (r, record { kept = first.kept; passes = first.passes; is = is; none = (λ _. not_before x r first.is, first.none) })
    | inr not_earlier ↦
        let (r, first) = first_of_passing b xs kept passes all.1 in
        (r, record { kept = first.kept; passes = first.passes; is = first.is; none = (λ h. behind r first.is h not_earlier, first.none) })
  ]
    where
      behind : (r : ℕ) → (r ≡ b) ⊎ (before r b ≡ true) → p x ≡ true → (p x && before x b) ≡ false → before x r ≡ false
      behind r is h not_earlier = false_from_ne_true (before x r) (λ sooner.
          let over : before x b ≡ true = elim is [ inl same ↦ rw (sym same) sooner | inr first ↦ trans x r b sooner first ] in
          both_ways _ not_earlier (and_from (p x) (before x b) h over))

-- a job that passes is among those that pass
some_passes : (p : ℕ → Bool) (xs : List ℕ) (k d : ℕ) → k < length xs → p (get_or xs k d) ≡ true → filter p xs ≡ [] → ⊥
some_passes p [] k d below passes none = omega (arith, below)
some_passes p (x ∷ xs) zero d below passes none = cons_nil (sym (cond-true (p x) (x ∷ filter p xs) (filter p xs) passes) ∙ none)
  where
    cons_nil : x ∷ filter p xs ≡ [] → ⊥
    cons_nil e = cc
some_passes p (x ∷ xs) (suc k) d below passes none = by_test (p x) none (some_passes p xs k d (omega (arith, below)) passes)
  where
    by_test : (b : Bool) → cond b (x ∷ filter p xs) (filter p xs) ≡ [] → (filter p xs ≡ [] → ⊥) → ⊥
    by_test true e rest = cc
    by_test false e rest = rest e

-- ---- moments

greatest-mono : (f g : ℕ → ℕ) → ((x : ℕ) → f x ≤ g x) → (xs : List ℕ) → greatest (map f xs) ≤ greatest (map g xs)
greatest-mono f g le [] = omega arith
greatest-mono f g le (x ∷ xs) = omega (arith, le x, greatest-mono f g le xs)

pub greatest-member : (f : ℕ → ℕ) (i : ℕ) (xs : List ℕ) → is_member i xs ≡ true → f i ≤ greatest (map f xs)
greatest-member f i [] there = cc
greatest-member f i (x ∷ xs) there = elim (or_cases (x == i) (is_member i xs) there) [
  | inl same ↦ omega (arith, ap f (eqb-true x i same))
  | inr later ↦ omega (arith, greatest-member f i xs later)
]

-- where numbers of no pass are not beyond t, the greatest that is comes from one that passes
greatest-passing : (f g : ℕ → ℕ) (q : ℕ → Bool) (t : ℕ) → ((x : ℕ) → f x ≤ g x) → ((x : ℕ) → q x ≡ false → f x ≤ t) → (xs : List ℕ) → t < greatest (map f xs) → t < greatest (map g (filter q xs))
greatest-passing f g q t le low [] less = less
greatest-passing f g q t le low (x ∷ xs) less = by_test (q x) refl (greatest-passing f g q t le low xs)
  where
    by_test : (b : Bool) → q x ≡ b → (t < greatest (map f xs) → t < greatest (map g (filter q xs))) → t < greatest (map g (cond b (x ∷ filter q xs) (filter q xs)))
    by_test true passes rest = elim (cases_lt t (greatest (map f xs))) [ inl more ↦ omega (arith, rest more) | inr past ↦ omega (arith, less, past, le x) ]
    by_test false fails rest = rest (omega (arith, less, low x fails))

-- a moment before all values is before the least of them
pub before-least : (f : ℕ → ℕ) (q : ℕ → Bool) (t : ℕ) (xs : List ℕ) → AllByRecursion (λ x. q x ≡ true → t < f x) xs → is_before t (least (map f (filter q xs))) ≡ true
before-least f q t [] all = refl
before-least f q t (x ∷ xs) all = by_test (q x) all.0 (before-least f q t xs all.1)
  where
    with_one : (a : ℕ) (o : Option ℕ) → t < a → is_before t o ≡ true → is_before t (Some (option_map_or (λ y. min a y) o a)) ≡ true
    with_one a None less rest = lt-ltb t a less
    with_one a (Some b) less rest = lt-ltb t (min a b) (omega (arith, less, ltb-true t b rest))

    by_test : (b : Bool) → (b ≡ true → t < f x) → is_before t (least (map f (filter q xs))) ≡ true → is_before t (least (map f (cond b (x ∷ filter q xs) (filter q xs)))) ≡ true
    by_test true less rest = with_one (f x) (least (map f (filter q xs))) (less refl) rest
    by_test false less rest = rest

-- also of a job that is not listed
low-high : (ends : List (ℕ × Interval)) → IsTrue (list_all (λ e. nat_le e.1.lo e.1.hi) ends) → (i : ℕ) → low_end ends i ≤ high_end ends i
low-high [] ordered i = omega arith
low-high (e ∷ ends) ordered i = by_test (nat_eq i e.0) (low-high ends parts.1 i)
  where
    parts : (nat_le e.1.lo e.1.hi ≡ true) × (list_all (λ e. nat_le e.1.lo e.1.hi) ends ≡ true)
    parts = and_parts (nat_le e.1.lo e.1.hi) (list_all (λ e. nat_le e.1.lo e.1.hi) ends) ordered

    by_test : (b : Bool) → low_end ends i ≤ high_end ends i → option_map_or (λ (s : Interval). s.lo) (cond b (Some e.1) (lookup (nat_eq i) ends)) 0 ≤ option_map_or (λ (s : Interval). s.hi) (cond b (Some e.1) (lookup (nat_eq i) ends)) 0
    by_test true rest = leb-true e.1.lo e.1.hi parts.0
    by_test false rest = rest

-- also of a job that is not there
pub released : (table : Table) → IsTable table → (j : ℕ) → (job_at table j).rmin ≤ (job_at table j).rmax
released table t j = elim (cases_lt j (length table.jobs)) [
  | inl below ↦ (All-get_or IsJob table.jobs j no_job below t.jobs).releases
  | inr past ↦ rw (get_or_past table.jobs j no_job past) (omega arith)
]

-- ---- the law

module _ (table : Table) (t : IsTable table) (set : List ℕ) (ends : List (ℕ × Interval)) (first : Interval) (order : first.lo ≤ first.hi) (spans : IsTrue (list_all (λ e. nat_le e.1.lo e.1.hi) ends)) where
  ready-le : (j : ℕ) → earliest_ready table ends j ≤ latest_ready table ends j
  ready-le j = omega (arith, released table t j, greatest-mono (low_end ends) (high_end ends) (low-high ends spans) (predecessors table j))

  -- a candidate that may not start by then is certainly there only after each that may
  late_beside : (j x : ℕ) → earliest_start table ends first j ≤ certain_start table set ends first → nat_le (earliest_start table ends first x) (certain_start table set ends first) ≡ false
      → earliest_start table ends first j < ready_beside table ends j x
  late_beside j x early late =
      let after : certain_start table set ends first < earliest_start table ends first x = leb-false _ _ late in
      let low = λ (i : ℕ) (shared : not (is_member i (predecessors table j)) ≡ false).
      let le = greatest-member (low_end ends) i (predecessors table j) (not-false _ shared) in
      let bound : low_end ends i ≤ earliest_start table ends first j = omega (arith, le) in bound in
      elim (cases_lt (earliest_start table ends first j) (greatest (map (low_end ends) (predecessors table x)))) [
        | inl more ↦ omega (arith, greatest-passing (low_end ends) (high_end ends) (λ i. not (is_member i (predecessors table j))) (earliest_start table ends first j) (low-high ends spans) low (predecessors table x) more)
        | inr past ↦ omega (arith, after, past, early, order, released table t x)
      ]

  -- the candidates, each of which is one
  all_candidates : AllByRecursion (λ x. is_candidate table set x ≡ true) (candidates table set)
  all_candidates = recursion_from_All (λ x. is_candidate table set x ≡ true) (candidates table set) (filter_passes (is_candidate table set) (numbers_below (length table.jobs)))

  -- a candidate that may start by then, and comes before all others that may, is eligible
  eligible-first : (j : ℕ) → is_candidate table set j ≡ true → nat_le (earliest_start table ends first j) (certain_start table set ends first) ≡ true
      → AllByRecursion (λ x. nat_le (earliest_start table ends first x) (certain_start table set ends first) ≡ true → has_urgency_over table x j ≡ false) (candidates table set)
      → IsSome (start_window table set ends first j)
  eligible-first j kept passes none =
      let est = earliest_start table ends first j in
      let limit = overtaken_from table set ends j in
      let before : is_before est limit ≡ true = before-least (ready_beside table ends j) (λ x. has_urgency_over table x j) est (candidates table set) (each (candidates table set) none) in
      let window : StartWindow = record { est = est; lst = last_before limit (certain_start table set ends first) } in
      ap is_some (cond-true _ (Some window) None (and_from _ (is_before est limit) (and_from (is_candidate table set j) _ kept passes) before))
    where
      each : (xs : List ℕ) → AllByRecursion (λ x. nat_le (earliest_start table ends first x) (certain_start table set ends first) ≡ true → has_urgency_over table x j ≡ false) xs
          → AllByRecursion (λ x. has_urgency_over table x j ≡ true → earliest_start table ends first j < ready_beside table ends j x) xs
      each [] all = tt
      each (x ∷ xs) all = ((λ urgent. late_beside j x (leb-true _ _ passes) (false_from_ne_true _ (λ early. both_ways _ (all.0 early) urgent))), each xs all.1)

  eligible : (c : ℕ) → is_candidate table set c ≡ true → (k : ℕ) × (k < length table.jobs) × IsSome (start_window table set ends first k)
  eligible c is = elim (least_of (λ x. is_candidate table set x ≡ true) (latest_ready table ends) (candidates table set) all_candidates) [
    | inl none ↦
        let at : get_or (numbers_below (length table.jobs)) c 0 ≡ c = get_or-range_with_len 0 (length table.jobs) c 0 (in_table c is) ∙ (omega arith) in
        absurd (some_passes (is_candidate table set) (numbers_below (length table.jobs)) c 0 (omega (arith, in_table c is, length-range_with_len 0 (length table.jobs))) (rw at is) none)
    | inr least_ready ↦
        let (y, kept, is_least) = least_ready in
        let certain : certain_start table set ends first ≡ max first.hi (latest_ready table ends y) = ap (λ o. max first.hi (unwrap_or o 0)) is_least in
        let early : earliest_start table ends first y ≤ certain_start table set ends first = omega (arith, certain, ready-le y, order) in
        let (j, top) = first_of_passing (λ x. is_candidate table set x ≡ true) (λ x. nat_le (earliest_start table ends first x) (certain_start table set ends first)) (has_urgency_over table)
        (λ x. urgent_itself (job_at table x)) (λ x y z. urgent-trans (job_at table x) (job_at table y) (job_at table z)) (λ x y. urgent_one_way (job_at table x) (job_at table y))
        y (candidates table set) kept (le-leb _ _ early) all_candidates in
        (j, in_table j top.kept, eligible-first j top.kept top.passes top.none)
  ]
    where
      in_table : (x : ℕ) → is_candidate table set x ≡ true → x < length table.jobs
      in_table x is = ltb-true x (length table.jobs) (and_parts (ltb x (length table.jobs)) (not (is_member x set)) (and_parts (ltb x (length table.jobs) && not (is_member x set)) _ is).0).0

pub some_job_is_eligible : SomeJobIsEligible
some_job_is_eligible table set ends first t order spans j below out =
    let n = length table.jobs in
    let ready = first_undispatched table t (λ i. is_member i set) j below out in
    let open_job = and_from (ltb ready.0 n) (not (is_member ready.0 set)) (lt-ltb ready.0 n ready.1) (not_from_false (is_member ready.0 set) ready.2) in
    eligible table t set ends first order spans ready.0 (and_from (ltb ready.0 n && not (is_member ready.0 set)) _ open_job ready.3)
