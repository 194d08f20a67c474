-- Ranks order the jobs by urgency.
use Rattle.std.proofs.Common.{◌≡◌, ◌≢◌, ℕ, zero, suc, ◌+◌, ◌<◌, ◌≤◌, ◌⊎◌, inl, inr, Bool, true, false, cond, List, [], ◌∷◌, get_or, length, refl, sym, ap, ◌∙◌, arith}
use Rattle.std.specs.Prelude.{count_by, nat_lt}
use Rattle.std.proofs.Math.Nat.{zero-add}
use Rattle.std.proofs.lemmas.Bool.{cases_order, lt-ltb, le-ltb}
use Rattle.std.proofs.lemmas.List.FromFn.{get_or-range_with_len, length-range_with_len}
use Rattle.std.proofs.lemmas.List.Sums.{count_by-le-length, sum_by-cons}
use Rattle.job_model.specs.Laws.{RanksOrderJobs}
use Rattle.lists.specs.Numbers.{numbers_below}
use Rattle.job_model.specs.Ranks.{rank_of}
use Rattle.job_model.specs.Table.{Table, HaveOneId, IsTable, has_urgency_over, job_at, no_job}
use Rattle.job_model.proofs.UrgencyLaws.{urgent_itself, urgent-trans, urgent_one_way, urgent_or_urgent}

-- a count of a list is that of its tail, and one more where its head passes
count_cons : (p : ℕ → Bool) (x : ℕ) (xs : List ℕ) (b : Bool) → p x ≡ b → count_by p (x ∷ xs) ≡ cond b 1 0 + count_by p xs
count_cons p x xs b e = sum_by-cons (λ y. cond (p y) 1 0) x xs ∙ ap (λ (v : Bool). cond v 1 0 + count_by p xs) e

-- where one test passes, another does
module _ (p q : ℕ → Bool) (so : (x : ℕ) → p x ≡ true → q x ≡ true) where
  count_le : (xs : List ℕ) → count_by p xs ≤ count_by q xs
  count_le [] = omega arith
  count_le (x ∷ xs) = by (p x) (q x) refl refl (count_le xs)
    where
      by : (a b : Bool) → p x ≡ a → q x ≡ b → count_by p xs ≤ count_by q xs → count_by p (x ∷ xs) ≤ count_by q (x ∷ xs)
      by true true e f le = omega (arith, count_cons p x xs true e, count_cons q x xs true f, le)
      by true false e f le = let too = so x e in cc (too, f)
      by false true e f le = omega (arith, count_cons p x xs false e, count_cons q x xs true f, le)
      by false false e f le = omega (arith, count_cons p x xs false e, count_cons q x xs false f, le)

  -- and at one number the other alone
  count_less : (xs : List ℕ) (k d : ℕ) → k < length xs → p (get_or xs k d) ≡ false → q (get_or xs k d) ≡ true → count_by p xs < count_by q xs
  count_less [] k d below fails passes = absurd (omega (arith, below))
  count_less (x ∷ xs) zero d below fails passes = omega (arith, count_cons p x xs false fails, count_cons q x xs true passes, count_le xs)
  count_less (x ∷ xs) (suc k) d below fails passes = by (p x) (q x) refl refl (count_less xs k d (omega (arith, below)) fails passes)
    where
      by : (a b : Bool) → p x ≡ a → q x ≡ b → count_by p xs < count_by q xs → count_by p (x ∷ xs) < count_by q (x ∷ xs)
      by true true e f less = omega (arith, count_cons p x xs true e, count_cons q x xs true f, less)
      by true false e f less = let too = so x e in cc (too, f)
      by false true e f less = omega (arith, count_cons p x xs false e, count_cons q x xs true f, less)
      by false false e f less = omega (arith, count_cons p x xs false e, count_cons q x xs false f, less)

pub number_at : (n i d : ℕ) → i < n → get_or (numbers_below n) i d ≡ i
number_at n i d below = get_or-range_with_len 0 n i d below ∙ zero-add i

-- the more urgent of two jobs has the smaller rank
pub rank_less : (table : Table) (i j : ℕ) → i < length table.jobs → has_urgency_over table i j ≡ true → rank_of table i < rank_of table j
rank_less table i j below e =
    let here = number_at (length table.jobs) i 0 below in
    count_less (λ x. has_urgency_over table x i) (λ x. has_urgency_over table x j) (λ x f. urgent-trans (job_at table x) (job_at table i) (job_at table j) f e)
    (numbers_below (length table.jobs)) i 0 (omega (arith, below, length-range_with_len 0 (length table.jobs)))
    (rw here (urgent_itself (job_at table i))) (rw here e)

-- a rank is the number of a job
pub rank_below : (table : Table) (i : ℕ) → i < length table.jobs → rank_of table i < length table.jobs
rank_below table i below =
    let n = length table.jobs in
    let here = number_at n i 0 below in
    let less = count_less (λ x. has_urgency_over table x i) (λ x. true) (λ x f. refl)
    (numbers_below n) i 0 (omega (arith, below, length-range_with_len 0 n)) (rw here (urgent_itself (job_at table i))) refl in
    omega (arith, less, count_by-le-length (λ (x : ℕ). true) (numbers_below n), length-range_with_len 0 n)

module _ (table : Table) (t : IsTable table) where
  -- two jobs have not the same IDs
  ids_apart : (i j : ℕ) → i ≢ j → i < length table.jobs → j < length table.jobs → ¬ HaveOneId (job_at table i) (job_at table j)
  ids_apart i j differ li lj same = by_order (cases_order i j)
    where
      by_order : (i ≡ j) ⊎ ((i < j) ⊎ (j < i)) → ⊥
      by_order (inl e) = differ e
      by_order (inr (inl h)) = t.ids_differ i j no_job h lj same
      by_order (inr (inr h)) = t.ids_differ j i no_job h li (sym same.0, sym same.1)

  -- of two jobs one is the more urgent
  pub one_urgent : (i j : ℕ) → i ≢ j → i < length table.jobs → j < length table.jobs → (has_urgency_over table i j ≡ true) ⊎ (has_urgency_over table j i ≡ true)
  one_urgent i j differ li lj = urgent_or_urgent (job_at table i) (job_at table j) (ids_apart i j differ li lj)

-- of two jobs the one of the smaller rank is the more urgent, and no two jobs have one rank
pub ranks_order : RanksOrderJobs
ranks_order table i j t li lj = by (cases_order i j)
  where
    same : i ≡ j → (has_urgency_over table i j ≡ nat_lt (rank_of table i) (rank_of table j)) × (i ≢ j → rank_of table i ≢ rank_of table j)
    same e = (rw e (urgent_itself (job_at table j) ∙ sym (le-ltb (rank_of table j) (rank_of table j) (omega arith))), λ differ. absurd (differ e))

    other : (has_urgency_over table i j ≡ true) ⊎ (has_urgency_over table j i ≡ true) →
        (has_urgency_over table i j ≡ nat_lt (rank_of table i) (rank_of table j)) × (i ≢ j → rank_of table i ≢ rank_of table j)
    other (inl e) =
        let less = rank_less table i j li e in
        (e ∙ sym (lt-ltb (rank_of table i) (rank_of table j) less), λ differ alike. omega (arith, less, alike))
    other (inr e) =
        let less = rank_less table j i lj e in
        (urgent_one_way (job_at table j) (job_at table i) e ∙ sym (le-ltb (rank_of table i) (rank_of table j) (omega (arith, less))), λ differ alike. omega (arith, less, alike))

    by : (i ≡ j) ⊎ ((i < j) ⊎ (j < i)) → (has_urgency_over table i j ≡ nat_lt (rank_of table i) (rank_of table j)) × (i ≢ j → rank_of table i ≢ rank_of table j)
    by (inl e) = same e
    by (inr (inl h)) = other (one_urgent table t i j (λ e. omega (arith, h, e)) li lj)
    by (inr (inr h)) = other (one_urgent table t i j (λ e. omega (arith, h, e)) li lj)
