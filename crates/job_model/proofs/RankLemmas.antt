-- The ranks of the jobs, as they are filled: the jobs are sorted by urgency, and the rank of each is its place.
use Rattle.std.proofs.Common.{◌≡◌, ◌≢◌, ℕ, zero, suc, ◌+◌, ◌-◌, ◌<◌, ◌≤◌, ◌⊎◌, inl, inr, true, false, List, [], ◌∷◌, ◌++◌, get_or, set, length, map, refl, sym, ap, ◌∙◌, arith}
use Rattle.std.specs.Prelude.{All, IsPermutation}
use Rattle.std.specs.List.{IsDistinct}
use Rattle.std.specs.List.Sorted.{IsSortedBy}
use Rattle.std.specs.declared.cmp.Ordering.{Ordering}
use Rattle.std.specs.declared.cmp.Ordering.TheVariants.{Less, Equal, Greater}
use Rattle.std.specs.Ordering.{eq_by_cmp, is_eq, is_lt, nat_cmp, ordering_reverse, ordering_then}
use Rattle.std.proofs.lemmas.Bool.{both_ways, cases_eq}
use Rattle.std.proofs.lemmas.Cmp.{nat_cmp_total, tied_itself}
use Rattle.std.proofs.lemmas.List.{get_or-map, get_or-set_same, get_or-set_other, length-map, length-set, map_push}
use Rattle.std.proofs.lemmas.List.Elements.{All-push}
use Rattle.std.proofs.lemmas.List.FromFn.{length-range_with_len}
use Rattle.std.proofs.lemmas.List.Sorted.{All-permutation, Contains-permutation, IsPermutation-map, length_permutation}
use Rattle.std.proofs.lemmas.Map.Keys.{IsDistinct-from_sorted, IsDistinct-IsPermutation, apart_from_distinct, sorted_from_strictly_increasing}
use Rattle.job_model.specs.declared.job_row.Job.{Job}
use Rattle.lists.specs.Numbers.{numbers_below}
use Rattle.job_model.specs.Ranks.{AreRanks, rank_of}
use Rattle.job_model.specs.Table.{IsTable, has_urgency_over, job_at, no_job, table_of}
use Rattle.job_model.specs.Urgency.{is_more_urgent}
use Rattle.lists.proofs.Ranges.{numbers_more}
use Rattle.job_model.proofs.RankLaws.{number_at, one_urgent, rank_below, rank_less}
use Rattle.lists.proofs.Orderings.{ordering_then-assoc}

-- the edges do not matter
pub AreRanks-edges : (jobs : List Job) (edges more : List (ℕ × ℕ)) (ranks : List ℕ) → AreRanks (record { jobs = jobs; edges = edges }) ranks
    → AreRanks (record { jobs = jobs; edges = more }) ranks
AreRanks-edges jobs edges more ranks h = record { one_each = h.one_each; own = h.own }

-- what jobs are sorted by, and the order of two such keys
abbrev pub key_of : Job → ℕ × ℕ × ℕ
key_of a = (a.priority, a.task, a.job)

abbrev pub key_cmp : ℕ × ℕ × ℕ → ℕ × ℕ × ℕ → Ordering
key_cmp a b = ordering_then (ordering_then (nat_cmp a.0 b.0) (nat_cmp a.1 b.1)) (nat_cmp a.2 b.2)

keys_compare : (a b : Job) → is_lt (key_cmp (key_of a) (key_of b)) ≡ is_more_urgent a b
keys_compare a b = ap is_lt (ordering_then-assoc (nat_cmp a.priority b.priority) (nat_cmp a.task b.task) (nat_cmp a.job b.job))

same_keys : (a b c d : ℕ × ℕ × ℕ) → a ≡ c → b ≡ d → is_lt (key_cmp c d) ≡ is_lt (key_cmp a b)
same_keys a b c d e f = sym (ap (λ k. is_lt (key_cmp k b)) e ∙ ap (λ k. is_lt (key_cmp c k)) f)

-- The first so many jobs, each with its key.
pub record HasKeys (jobs : List Job) (count : ℕ) (order : List ((ℕ × ℕ × ℕ) × ℕ)) : Type 0 where
  pub numbers : map (λ e. e.1) order ≡ numbers_below count
  pub own : All (λ e. (e.0 ≡ key_of (job_at (table_of jobs) e.1)) × (e.1 < length jobs)) order

pub HasKeys-none : (jobs : List Job) → HasKeys jobs 0 []
HasKeys-none jobs = record { numbers = refl; own = λ k d below. absurd (omega (arith, below)) }

pub HasKeys-more : (jobs : List Job) (count : ℕ) (order : List ((ℕ × ℕ × ℕ) × ℕ)) → count < length jobs → HasKeys jobs count order
    → HasKeys jobs (count + 1) (order ++ (key_of (get_or jobs count no_job), count) ∷ [])
HasKeys-more jobs count order below h = record {
  numbers = map_push (λ e. e.1) order (key_of (get_or jobs count no_job), count) ∙ ap (λ l. l ++ count ∷ []) h.numbers ∙ sym (numbers_more count);
  own = All-push (λ e. (e.0 ≡ key_of (job_at (table_of jobs) e.1)) × (e.1 < length jobs)) order (key_of (get_or jobs count no_job), count) h.own (refl, below);
}

-- numbers in another order are no number twice
eq_flips : (x y : ℕ) → eq_by_cmp nat_cmp x y ≡ eq_by_cmp nat_cmp y x
eq_flips x y = ap is_eq (nat_cmp_total.antisymm x y) ∙ same (nat_cmp y x)
  where
    same : (o : Ordering) → is_eq (ordering_reverse o) ≡ is_eq o
    same Less = refl
    same Equal = refl
    same Greater = refl

numbers_apart : (n : ℕ) (xs : List ℕ) → IsPermutation (numbers_below n) xs → (i j : ℕ) → i < j → j < length xs → get_or xs i 0 ≢ get_or xs j 0
numbers_apart n xs moved i j less below same =
    let up = sorted_from_strictly_increasing (numbers_below n) (λ k h.
    let h' : k + 1 < n = omega (arith, h, length-range_with_len 0 n) in
    omega (arith, number_at n k 0 (omega (arith, h')), number_at n (k + 1) 0 h')) in
    let distinct : IsDistinct (eq_by_cmp nat_cmp) xs = IsDistinct-IsPermutation (eq_by_cmp nat_cmp) eq_flips (numbers_below n) xs moved (IsDistinct-from_sorted nat_cmp (numbers_below n) up) in
    let apart : eq_by_cmp nat_cmp (get_or xs i 0) (get_or xs j 0) ≡ false = apart_from_distinct (eq_by_cmp nat_cmp) xs i j 0 distinct less below in
    let tied : eq_by_cmp nat_cmp (get_or xs i 0) (get_or xs j 0) ≡ true = rw same (ap is_eq (tied_itself nat_cmp_total (get_or xs j 0))) in
    both_ways (eq_by_cmp nat_cmp (get_or xs i 0) (get_or xs j 0)) apart tied

-- numbers below n that rise from place to place of n places are the places
module _ (f : ℕ → ℕ) (n : ℕ) (rises : (k : ℕ) → suc k < n → f k < f (suc k)) (below : (k : ℕ) → k < n → f k < n) where
  at_least : (k : ℕ) → k < n → k ≤ f k
  at_least zero h = omega arith
  at_least (suc k) h = let less = rises k h in let le = at_least k (omega (arith, h)) in omega (arith, less, le)

  at_most : (m k : ℕ) → k + suc m ≡ n → f k ≤ k
  at_most zero k h = let less = below k (omega (arith, h)) in omega (arith, less, h)
  at_most (suc m) k h =
      let less = rises k (omega (arith, h)) in
      let le = at_most m (suc k) (omega (arith, h)) in
      omega (arith, less, le)

  pub are_places : (k : ℕ) → k < n → f k ≡ k
  are_places k h =
      let up = at_least k h in
      let down = at_most (n - suc k) k (omega (arith, h)) in
      omega (arith, up, down)

-- a job's key and its number
abbrev pub Entry : Type 0
Entry = (ℕ × ℕ × ℕ) × ℕ

abbrev pub no_entry : Entry
no_entry = ((0, 0, 0), 0)

-- The jobs from the most urgent on, each with its number.
pub record IsUrgencyOrder (jobs : List Job) (order : List Entry) : Type 0 where
  pub few : length order ≡ length jobs
  pub each_job : (j : ℕ) → j < length jobs → (k : ℕ) × (k < length jobs) × ((get_or order k no_entry).1 ≡ j)
  pub own : (k : ℕ) → k < length jobs → (get_or order k no_entry).1 < length jobs
  pub places : (k : ℕ) → k < length jobs → rank_of (table_of jobs) (get_or order k no_entry).1 ≡ k

-- all jobs, sorted
module _ (jobs : List Job) (t : IsTable (table_of jobs)) (order sorted : List Entry) (h : HasKeys jobs (length jobs) order)
    (moved : IsPermutation order sorted) (up : IsSortedBy (λ (x y : Entry). is_lt (key_cmp x.0 y.0)) sorted) where
  each : IsPermutation (numbers_below (length jobs)) (map (λ (e : Entry). e.1) sorted)
  each = rw h.numbers at (IsPermutation-map (λ (e : Entry). e.1) order sorted moved)

  count : length sorted ≡ length jobs
  count = omega (arith, length_permutation (numbers_below (length jobs)) (map (λ (e : Entry). e.1) sorted) each, length-map sorted (λ (e : Entry). e.1), length-range_with_len 0 (length jobs))

  owns : All (λ (e : Entry). (e.0 ≡ key_of (job_at (table_of jobs) e.1)) × (e.1 < length jobs)) sorted
  owns = All-permutation (λ (e : Entry). (e.0 ≡ key_of (job_at (table_of jobs) e.1)) × (e.1 < length jobs)) order sorted moved h.own

  read : (k d : ℕ) → k < length jobs → get_or (map (λ (e : Entry). e.1) sorted) k d ≡ (get_or sorted k no_entry).1
  read k d below = get_or-map (λ (e : Entry). e.1) sorted k no_entry d (omega (arith, below, count))

  apart : (k : ℕ) → suc k < length jobs → (get_or sorted k no_entry).1 ≢ (get_or sorted (suc k) no_entry).1
  apart k below same =
      numbers_apart (length jobs) (map (λ (e : Entry). e.1) sorted) each k (suc k) (omega arith) (omega (arith, below, count, length-map sorted (λ (e : Entry). e.1)))
      (read k 0 (omega (arith, below)) ∙ same ∙ sym (read (suc k) 0 below))

  not_before : (k : ℕ) → suc k < length jobs → has_urgency_over (table_of jobs) (get_or sorted (suc k) no_entry).1 (get_or sorted k no_entry).1 ≡ false
  not_before k below =
      let x = get_or sorted k no_entry in
      let y = get_or sorted (suc k) no_entry in
      let key_x = (owns k no_entry (omega (arith, below, count))).0 in
      let key_y = (owns (suc k) no_entry (omega (arith, below, count))).0 in
      sym (keys_compare (job_at (table_of jobs) y.1) (job_at (table_of jobs) x.1))
      ∙ same_keys y.0 x.0 (key_of (job_at (table_of jobs) y.1)) (key_of (job_at (table_of jobs) x.1)) key_y key_x
      ∙ ap (λ (m : ℕ). is_lt (key_cmp (get_or sorted m no_entry).0 x.0)) (omega arith)
      ∙ up k no_entry (omega arith) (omega (arith, below, count))

  rises : (k : ℕ) → suc k < length jobs → rank_of (table_of jobs) (get_or sorted k no_entry).1 < rank_of (table_of jobs) (get_or sorted (suc k) no_entry).1
  rises k below = by (one_urgent (table_of jobs) t x y (apart k below) lx ly)
    where
      x : ℕ
      x = (get_or sorted k no_entry).1

      y : ℕ
      y = (get_or sorted (suc k) no_entry).1

      lx : x < length jobs
      lx = (owns k no_entry (omega (arith, below, count))).1

      ly : y < length jobs
      ly = (owns (suc k) no_entry (omega (arith, below, count))).1

      by : (has_urgency_over (table_of jobs) x y ≡ true) ⊎ (has_urgency_over (table_of jobs) y x ≡ true) → rank_of (table_of jobs) x < rank_of (table_of jobs) y
      by (inl e) = rank_less (table_of jobs) x y lx e
      by (inr e) = absurd (both_ways (has_urgency_over (table_of jobs) y x) (not_before k below) e)

  pub IsUrgencyOrder-sorted : IsUrgencyOrder jobs sorted
  IsUrgencyOrder-sorted = record {
    few = count;
    each_job = λ j below.
        let (k, at, is) = Contains-permutation (numbers_below (length jobs)) (map (λ (e : Entry). e.1) sorted) j each
        (j, omega (arith, below, length-range_with_len 0 (length jobs)), number_at (length jobs) j j below) in
        let less : k < length jobs = omega (arith, at, count, length-map sorted (λ (e : Entry). e.1)) in
        (k, less, sym (read k j less) ∙ is);
    own = λ k below. (owns k no_entry (omega (arith, below, count))).1;
    places = are_places (λ k. rank_of (table_of jobs) (get_or sorted k no_entry).1) (length jobs) rises
        (λ k below. rank_below (table_of jobs) (get_or sorted k no_entry).1 (owns k no_entry (omega (arith, below, count))).1);
  }

-- the ranks of the jobs at the first so many places
pub record HasRanks (jobs : List Job) (order : List Entry) (count : ℕ) (ranks : List ℕ) : Type 0 where
  pub one_each : length ranks ≡ length jobs
  pub own : (k : ℕ) → k < count → get_or ranks (get_or order k no_entry).1 0 ≡ rank_of (table_of jobs) (get_or order k no_entry).1

pub HasRanks-none : (jobs : List Job) (order : List Entry) (ranks : List ℕ) → length ranks ≡ length jobs → HasRanks jobs order 0 ranks
HasRanks-none jobs order ranks count = record { one_each = count; own = λ k below. absurd (omega (arith, below)) }

pub HasRanks-more : (jobs : List Job) (order : List Entry) (place : ℕ) (ranks : List ℕ) → IsUrgencyOrder jobs order → place < length jobs → HasRanks jobs order place ranks
    → HasRanks jobs order (place + 1) (set ranks (get_or order place no_entry).1 place)
HasRanks-more jobs order place ranks o below h = record {
  one_each = length-set ranks no place ∙ h.one_each;
  own = λ k less. by k less (cases_eq (number k) no);
}
  where
    number : ℕ → ℕ
    number k = (get_or order k no_entry).1

    no : ℕ
    no = number place

    by : (k : ℕ) → k < place + 1 → (number k ≡ no) ⊎ (number k ≢ no) → get_or (set ranks no place) (number k) 0 ≡ rank_of (table_of jobs) (number k)
    by k less (inl e) = rw e (get_or-set_same ranks no place 0 (omega (arith, h.one_each, o.own place below)) ∙ sym (o.places place below))
    by k less (inr e) = get_or-set_other ranks no (number k) place 0 e ∙ h.own k (earlier (cases_eq k place))
      where
        earlier : (k ≡ place) ⊎ (k ≢ place) → k < place
        earlier (inl same) = absurd (e (ap number same))
        earlier (inr differ) = omega (arith, less, differ)

pub AreRanks-all : (jobs : List Job) (order : List Entry) (ranks : List ℕ) → IsUrgencyOrder jobs order → HasRanks jobs order (length jobs) ranks → AreRanks (table_of jobs) ranks
AreRanks-all jobs order ranks o h = record {
  one_each = h.one_each;
  own = λ j below.
      let (k, less, is) = o.each_job j below in
      rw is at (h.own k less);
}
