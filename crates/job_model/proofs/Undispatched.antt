-- While a job is undispatched, there is one whose predecessors are all dispatched: else going back for ever would close a cycle.
use Rattle.std.proofs.Common.{◌≡◌, ◌≢◌, ℕ, zero, suc, ◌+◌, ◌-◌, ◌<◌, ◌⊎◌, inl, inr, Bool, true, false, ◌&&◌, List, [], ◌∷◌, length, not, refl, sym, ap, ◌∙◌, subst, arith}
use Rattle.std.specs.Prelude.{Contains}
use Rattle.std.specs.List.{list_all}
use Rattle.std.proofs.lemmas.Bool.{and_parts, cases_eq}
use Rattle.std.proofs.lemmas.List.Elements.{All-contains}
use Rattle.job_model.specs.Table.{IsTable, Table, Walk, predecessors}
use Rattle.job_model.proofs.Pigeonhole.{pigeonhole}
use Rattle.job_model.proofs.WalkLemmas.{edge-from_source}
use Rattle.lists.proofs.Elements.{contains-rest}

-- the test passes at a number below n, or at none
first_passing : (p : ℕ → Bool) (n : ℕ) → ((x : ℕ) × (x < n) × (p x ≡ true)) ⊎ ((x : ℕ) → x < n → p x ≡ false)
first_passing p zero = inr (λ x less. absurd (omega (arith, less)))
first_passing p (suc n) = by (p n) refl (first_passing p n)
  where
    below : p n ≡ false → ((x : ℕ) → x < n → p x ≡ false) → (x : ℕ) → x < suc n → (x ≡ n) ⊎ (x ≢ n) → p x ≡ false
    below e none x less (inl same) = ap p same ∙ e
    below e none x less (inr differ) = none x (omega (arith, less, differ))

    by : (b : Bool) → p n ≡ b → ((x : ℕ) × (x < n) × (p x ≡ true)) ⊎ ((x : ℕ) → x < n → p x ≡ false) → ((x : ℕ) × (x < suc n) × (p x ≡ true)) ⊎ ((x : ℕ) → x < suc n → p x ≡ false)
    by b e (inl found) = inl (found.0, omega (arith, found.1), found.2)
    by true e (inr none) = inl (n, omega arith, e)
    by false e (inr none) = inr (λ x less. below e none x less (cases_eq x n))

-- an element at which the test fails
failing : (p : ℕ → Bool) (xs : List ℕ) → list_all p xs ≡ false → (x : ℕ) × Contains xs x × (p x ≡ false)
failing p [] e = cc
failing p (x ∷ xs) e = by (p x) refl e (failing p xs)
  where
    by : (b : Bool) → p x ≡ b → (b && list_all p xs) ≡ false → (list_all p xs ≡ false → (y : ℕ) × Contains xs y × (p y ≡ false)) → (y : ℕ) × Contains (x ∷ xs) y × (p y ≡ false)
    by false here fails rest = (x, (0, omega arith, refl), here)
    by true here fails rest = let found = rest fails in (found.0, contains-rest x found.0 xs found.1, found.2)

module _ (table : Table) (is_table : IsTable table) (done : ℕ → Bool) where
  -- whether j is undispatched, and its predecessors are all dispatched
  abbrev is_available : ℕ → Bool
  is_available j = not (done j) && list_all done (predecessors table j)

  record Waiting : Type 0 where
    pub job : ℕ
    pub is_job : job < length table.jobs
    pub waits : done job ≡ false

  module _ (none : (j : ℕ) → j < length table.jobs → is_available j ≡ false) where
    -- a predecessor that is undispatched
    back : (x : Waiting) → (y : Waiting) × Contains table.edges (y.job, x.job)
    back x =
        let fails : list_all done (predecessors table x.job) ≡ false = rw x.waits at (none x.job x.is_job) in
        let found = failing done (predecessors table x.job) fails in
        let edge = edge-from_source table.edges found.0 x.job found.1 in
        let joins = All-contains (λ e. (e.0 < length table.jobs) × (e.1 < length table.jobs)) table.edges (found.0, x.job) is_table.edges_in_range edge in
        (record { job = found.0; is_job = joins.0; waits = found.2 }, edge)

    back_by : Waiting → ℕ → Waiting
    back_by x zero = x
    back_by x (suc k) = (back (back_by x k)).0

    walk_back : (x : Waiting) (k n : ℕ) → Walk table.edges (back_by x (n + k)).job (back_by x k).job n
    unfolding back_by
    walk_back x k zero = ap (λ l. (back_by x l).job) (plus k)
      where
        plus : (k : ℕ) → 0 + k ≡ k
        plus k = omega arith
    walk_back x k (suc n) =
        let here = (back (back_by x (n + k))).1 in
        ((back_by x (n + k)).job, subst (λ l. Contains table.edges ((back_by x l).job, (back_by x (n + k)).job)) (plus n k) here, walk_back x k n)
      where
        plus : (n k : ℕ) → suc (n + k) ≡ suc n + k
        plus n k = omega arith

    cycle : Waiting → ⊥
    cycle x =
        let twice = pigeonhole (length table.jobs) (λ k. (back_by x k).job) (λ k _. (back_by x k).is_job) in
        closed twice.0 twice.1 twice.2 twice.4 (walk_back x twice.0 (twice.1 - twice.0))
      where
        closed : (a b : ℕ) → a < b → (back_by x a).job ≡ (back_by x b).job → Walk table.edges (back_by x (b - a + a)).job (back_by x a).job (b - a) → ⊥
        closed a b less same walk =
            let e : b - a ≡ suc (b - a - 1) = omega (arith, less) in
            let f : b - a + a ≡ b = omega (arith, less) in
            let home : (back_by x (b - a + a)).job ≡ (back_by x a).job = ap (λ l. (back_by x l).job) f ∙ sym same in
            is_table.no_cycle (back_by x a).job (b - a - 1)
            (subst (λ n. Walk table.edges (back_by x a).job (back_by x a).job n) e (subst (λ i. Walk table.edges i (back_by x a).job (b - a)) home walk))

  -- while a job is undispatched, there is one whose predecessors are all dispatched
  pub first_undispatched : (j : ℕ) → j < length table.jobs → done j ≡ false → (i : ℕ) × (i < length table.jobs) × (done i ≡ false) × (list_all done (predecessors table i) ≡ true)
  first_undispatched j is_job waits = by (first_passing is_available (length table.jobs))
    where
      by : ((i : ℕ) × (i < length table.jobs) × (is_available i ≡ true)) ⊎ ((i : ℕ) → i < length table.jobs → is_available i ≡ false) → (i : ℕ) × (i < length table.jobs) × (done i ≡ false) × (list_all done (predecessors table i) ≡ true)
      by (inl found) =
          let both = and_parts (not (done found.0)) (list_all done (predecessors table found.0)) found.2 in
          (found.0, found.1, not_true (done found.0) both.0, both.1)
        where
          not_true : (b : Bool) → not b ≡ true → b ≡ false
          not_true true e = cc
          not_true false e = refl
      by (inr none) = absurd (cycle none (record { job = j; is_job = is_job; waits = waits }))
