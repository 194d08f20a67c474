-- While a job is not done, there is one whose predecessors are.
use Rattle.std.proofs.Common.{◌≡◌, ℕ, ◌<◌, Bool, true, false, List, [], ◌∷◌, length}
use Rattle.std.specs.List.{AllByRecursion, list_all}
use Rattle.std.proofs.lemmas.Bool.{and_parts}
use Rattle.job_model.specs.Table.{Table, IsTable, predecessors}
use Rattle.job_model.proofs.Undispatched.{first_undispatched}
use Rattle.run_turns.proofs.Decided.{IsDecided, decided_both, decided_all, decided_true, decided_false}

each_passes : (p : ℕ → Bool) (xs : List ℕ) → list_all p xs ≡ true → AllByRecursion (λ x. p x ≡ true) xs
each_passes p [] e = tt
each_passes p (x ∷ xs) e =
    let both = and_parts (p x) (list_all p xs) e in
    (both.0, each_passes p xs both.1)

module _ (table : Table) (is_table : IsTable table) (done : ℕ → Bool) where
  -- j can be dispatched as far as its predecessors go
  abbrev pub IsAvailable : ℕ → Type 0
  IsAvailable j = (done j ≡ false) × AllByRecursion (λ i. done i ≡ true) (predecessors table j)

  pub decided_available : (j : ℕ) → IsDecided (IsAvailable j)
  decided_available j = decided_both _ _ (decided_false (done j)) (decided_all (λ i. done i ≡ true) (λ i. decided_true (done i)) (predecessors table j))

  pub some_available : (j : ℕ) → j < length table.jobs → done j ≡ false → (i : ℕ) × (i < length table.jobs) × IsAvailable i
  some_available j is_job waits =
      let (i, is_one, left, after) = first_undispatched table is_table done j is_job waits in
      (i, is_one, (left, each_passes done (predecessors table i) after))
