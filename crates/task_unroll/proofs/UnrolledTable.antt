-- The jobs that tasks release are a job table, where none may be released too late and there are not too many.
use Rattle.std.proofs.Common.{◌≡◌, ◌≢◌, ◌∙◌, ℕ, suc, ◌+◌, ◌-◌, ◌<◌, ◌≤◌, ◌⊎◌, inl, inr, Bool, true, false, List, [], ◌∷◌, ◌++◌, length, map, get_or, refl, sym, ap, subst, arith, lit≤, length-append}
use Rattle.std.specs.Prelude.{◌↔◌, All, AllPairs, IsTrue, nat_lt}
use Rattle.std.specs.List.Sorted.{IsStrictlySortedBy}
use Rattle.std.proofs.lemmas.Bool.{cases_lt}
use Rattle.std.proofs.lemmas.Bool.Decides.{nat_tests}
use Rattle.std.proofs.lemmas.List.{length-map, get_or_append_left, get_or-append_right}
use Rattle.std.proofs.lemmas.List.Elements.{All-append, All-head, All-map, All-tail, All-weaker, filter_passes}
use Rattle.std.proofs.lemmas.List.FromFn.{get_or-map-range_with_len, length-map-range_with_len}
use Rattle.std.proofs.lemmas.List.Sums.{sum_by-cons}
use Rattle.lists.specs.Numbers.{numbers_below}
use Rattle.job_model.specs.declared.job_row.Job.{Job}
use Rattle.job_model.specs.declared.limits.TheConstants.{MOST_ARRIVAL, MOST_JOBS}
use Rattle.job_model.specs.Table.{HaveOneId, IsJob, IsTable, Walk, table_of}
use Rattle.task_unroll.specs.declared.task.Task.{Task}
use Rattle.task_unroll.specs.declared.task.Policy.{Policy}
use Rattle.task_unroll.specs.Tasks.{AreTasks, IsTask}
use Rattle.task_unroll.specs.UnrollFaults.{IsLate}
use Rattle.task_unroll.specs.Unrolled.{release_at, released_count, released_job, released_jobs, releases_of, unrolled}
use Rattle.task_unroll.proofs.Counts.{releases_counted}

none_below : (k : ℕ) → k < 0 → ⊥
none_below k h = omega (arith, h)

no_walk : (a b n : ℕ) → ¬ Walk [] a b (suc n)
no_walk a b n w = none_below w.1.0 w.1.1

-- few jobs that keep their rules and have different IDs are a table
table-jobs : (jobs : List Job) → length jobs ≤ MOST_JOBS → All IsJob jobs → AllPairs (λ a b. ¬ HaveOneId a b) jobs → IsTable (table_of jobs)
unfolding IsStrictlySortedBy
table-jobs jobs few each differ = record {
  few_jobs = few;
  jobs = each;
  ids_differ = differ;
  few_edges = lit≤ tt;
  edges_rise = tt;
  edges_in_range = λ k d h. absurd (none_below k h);
  no_cycle = λ j n. no_walk j j n;
}

-- ---- two lists one after the other

module _ {X : Type 0} (R : X → X → Type 0) (P Q : X → Type 0) (apart : (x y : X) → P x → Q y → R x y) where
  pairs_by : (xs ys : List X) (i j : ℕ) (d : X) → AllPairs R xs → AllPairs R ys → All P xs → All Q ys → i < j → j < length (xs ++ ys)
      → (i < length xs) ⊎ (length xs ≤ i) → (j < length xs) ⊎ (length xs ≤ j) → R (get_or (xs ++ ys) i d) (get_or (xs ++ ys) j d)
  pairs_by xs ys i j d front back first second less below (inl here) (inl there) =
      rw (get_or_append_left xs ys d i here, get_or_append_left xs ys d j there) (front i j d less there)
  pairs_by xs ys i j d front back first second less below (inl here) (inr there) =
      let within : j - length xs < length ys = omega (arith, below, length-append xs ys, there) in
      rw (get_or_append_left xs ys d i here, get_or-append_right xs ys (length xs) j d refl there) (apart _ _ (first i d here) (second (j - length xs) d within))
  pairs_by xs ys i j d front back first second less below (inr here) (inl there) = absurd (omega (arith, here, there, less))
  pairs_by xs ys i j d front back first second less below (inr here) (inr there) =
      let within : j - length xs < length ys = omega (arith, below, length-append xs ys, there) in
      let rising : i - length xs < j - length xs = omega (arith, less, here) in
      rw (get_or-append_right xs ys (length xs) i d refl here, get_or-append_right xs ys (length xs) j d refl there) (back (i - length xs) (j - length xs) d rising within)

  -- pairs of the one, pairs of the other, and pairs of both
  pairs_append : (xs ys : List X) → AllPairs R xs → AllPairs R ys → All P xs → All Q ys → AllPairs R (xs ++ ys)
  pairs_append xs ys front back first second i j d less below =
      pairs_by xs ys i j d front back first second less below (cases_lt i (length xs)) (cases_lt j (length xs))

-- ---- each job

below-from : (m n : ℕ) → nat_lt m n ≡ true → m < n
below-from m n e = grind (arith, nat_tests)

module _ (policy : Policy) (horizon : ℕ) (P : Job → Type 0) where
  -- what holds of each job that a task releases before the horizon
  jobs_each : (a : Task) → ((k : ℕ) → release_at a k < horizon → P (released_job policy a k)) → All P (released_jobs policy horizon a)
  jobs_each a each =
      All-map P (released_job policy a) (releases_of a horizon)
      (All-weaker (λ k. nat_lt (release_at a k) horizon ≡ true) (λ k. P (released_job policy a k)) (λ k passes. each k (below-from (release_at a k) horizon passes)) (releases_of a horizon)
      (filter_passes (λ k. nat_lt (release_at a k) horizon) (numbers_below horizon)))

  -- and of each that tasks do
  unrolled_each : (Q : Task → Type 0) → ((a : Task) → Q a → (k : ℕ) → release_at a k < horizon → P (released_job policy a k)) → (tasks : List Task) → All Q tasks
      → All P (unrolled policy tasks horizon)
  unrolled_each Q each [] all = λ k d below. absurd (none_below k below)
  unrolled_each Q each (a ∷ tasks) all =
      All-append P (released_jobs policy horizon a) (unrolled policy tasks horizon)
      (jobs_each a (each a (All-head Q a tasks all))) (unrolled_each Q each tasks (All-tail Q a tasks all))

-- the job is within the limits
is_job : (policy : Policy) (horizon : ℕ) (a : Task) → IsTask a × (¬ IsLate horizon a) → (k : ℕ) → release_at a k < horizon → IsJob (released_job policy a k)
is_job policy horizon a (task, on_time) k released = record {
  releases = omega arith;
  arrival_limit = within (cases_lt MOST_ARRIVAL (release_at a k + a.jitter));
  costs_something = task.costs_something;
  costs = task.costs;
  cost_limit = task.cost_limit;
}
  where
    within : (MOST_ARRIVAL < release_at a k + a.jitter) ⊎ (release_at a k + a.jitter ≤ MOST_ARRIVAL) → release_at a k + a.jitter ≤ MOST_ARRIVAL
    within (inl late) = absurd (on_time (record { k = k; released = released; late = late }))
    within (inr fits) = fits

all_both : {X : Type 0} (P Q : X → Type 0) (xs : List X) → All P xs → All Q xs → All (λ x. P x × Q x) xs
all_both P Q xs p q k d below = (p k d below, q k d below)

-- ---- their IDs

-- the jobs of one task have different numbers
jobs_differ : (policy : Policy) (horizon : ℕ) (a : Task) → IsTask a → AllPairs (λ x y. ¬ HaveOneId x y) (released_jobs policy horizon a)
jobs_differ policy horizon a task i j d less below =
    let (c, are) = releases_counted a horizon task in
    let jobs : released_jobs policy horizon a ≡ map (released_job policy a) (numbers_below c) = ap (map (released_job policy a)) are in
    let within : j < c = omega (arith, below, ap length jobs, length-map-range_with_len (released_job policy a) 0 c) in
    let one : get_or (released_jobs policy horizon a) i d ≡ released_job policy a i =
    ap (λ l. get_or l i d) jobs ∙ get_or-map-range_with_len (released_job policy a) 0 c i i d (omega (arith, less, within)) (omega arith) in
    let other : get_or (released_jobs policy horizon a) j d ≡ released_job policy a j =
    ap (λ l. get_or l j d) jobs ∙ get_or-map-range_with_len (released_job policy a) 0 c j j d within (omega arith) in
    subst (λ y. ¬ HaveOneId (get_or (released_jobs policy horizon a) i d) y) (sym other)
    (subst (λ x. ¬ HaveOneId x (released_job policy a j)) (sym one) (λ same. omega (arith, same.1, less)))

-- no two jobs of all tasks have the same IDs
ids_differ : (policy : Policy) (horizon : ℕ) (tasks : List Task) → All IsTask tasks → AllPairs (λ a b. a.task ≢ b.task) tasks → AllPairs (λ x y. ¬ HaveOneId x y) (unrolled policy tasks horizon)
ids_differ policy horizon [] each differ = λ i j d less below same. none_below j below
ids_differ policy horizon (a ∷ tasks) each differ =
    pairs_append (λ x y. ¬ HaveOneId x y) (λ x. x.task ≡ a.task) (λ y. a.task ≢ y.task) (λ x y here there same. there (sym here ∙ same.0))
    (released_jobs policy horizon a) (unrolled policy tasks horizon)
    (jobs_differ policy horizon a (All-head IsTask a tasks each))
    (ids_differ policy horizon tasks (All-tail IsTask a tasks each) (λ i j d less below. differ (suc i) (suc j) d (omega (arith, less)) (omega (arith, below))))
    (jobs_each policy horizon (λ x. x.task ≡ a.task) a (λ k released. refl))
    (unrolled_each policy horizon (λ y. a.task ≢ y.task) (λ b. a.task ≢ b.task) (λ b apart k released. apart) tasks
    (λ k d below. differ 0 (suc k) d (omega arith) (omega (arith, below))))

-- ---- their number

pub length-unrolled : (policy : Policy) (tasks : List Task) (horizon : ℕ) → length (unrolled policy tasks horizon) ≡ released_count tasks horizon
length-unrolled policy [] horizon = refl
length-unrolled policy (a ∷ tasks) horizon =
    omega (
      arith,
      length-append (released_jobs policy horizon a) (unrolled policy tasks horizon),
      length-map (releases_of a horizon) (released_job policy a),
      length-unrolled policy tasks horizon,
      sum_by-cons (λ b. length (releases_of b horizon)) a tasks,
    )

-- a test that fails, and what it tells of a count
pub few_from : (b : Bool) (most n : ℕ) → (IsTrue b ↔ (most < n)) → b ≡ false → n ≤ most
few_from b most n tells is = by (cases_lt most n)
  where
    by : (most < n) ⊎ (n ≤ most) → n ≤ most
    by (inl more) = let too : b ≡ true = tells.1 more in absurd (cc (is, too))
    by (inr few) = few

-- the jobs are a table
pub unrolled_table : (policy : Policy) (tasks : List Task) (horizon : ℕ) → AreTasks tasks → All (λ a. ¬ IsLate horizon a) tasks → length (unrolled policy tasks horizon) ≤ MOST_JOBS
    → IsTable (table_of (unrolled policy tasks horizon))
unrolled_table policy tasks horizon are on_time few =
    table-jobs (unrolled policy tasks horizon) few
    (unrolled_each policy horizon IsJob (λ a. IsTask a × (¬ IsLate horizon a)) (is_job policy horizon) tasks (all_both IsTask (λ a. ¬ IsLate horizon a) tasks are.each on_time))
    (ids_differ policy horizon tasks are.each are.ids_differ)
