-- Entries of jobs: that their numbers fit, and what they are of a schedule.
use Rattle.std.proofs.Common.{◌≡◌, ℕ, ◌+◌, ◌^◌, ◌<◌, List, ◌∷◌, ◌++◌, [], get_or, length, map, max, take, refl, sym, ap, ◌∙◌, arith}
use Rattle.std.proofs.lemmas.List.{take_more}
use Rattle.std.proofs.lemmas.List.Recursion.{max_push}
use Rattle.lists.specs.Numbers.{greatest}
use Rattle.job_model.specs.Scenario.{Fits}
use Rattle.job_model.specs.Table.{Table, IsTable, no_job, predecessors}
use Rattle.run_meaning.specs.declared.places.Place.{Place}
use Rattle.run_meaning.specs.Ready.{finish_of, start_of}
use Rattle.run_meaning.proofs.StartsAgree.{predecessors_below}

module _ (table : Table) (scenario : List (ℕ × ℕ)) (is_table : IsTable table) (fits : Fits table scenario) where
  pub finish_fits : (schedule : List Place) (j : ℕ) → j < length table.jobs → start_of schedule j < 2 ^ 63 → finish_of scenario schedule j < 2 ^ 64
  finish_fits schedule j below early = omega (arith, early, (fits.each j below).at_most, (is_table.jobs j no_job below).cost_limit)

  pub predecessor_below : (j k d : ℕ) → k < length (predecessors table j) → get_or (predecessors table j) k d < length table.jobs
  predecessor_below j k d below = predecessors_below table scenario is_table fits j k d below

-- the greatest of one number more
pub greatest_more : (f : ℕ → ℕ) (a latest : ℕ) (xs : List ℕ) (y : ℕ) → latest ≡ max a (greatest (map f xs)) → max latest (f y) ≡ max a (greatest (map f (xs ++ y ∷ [])))
greatest_more f a latest xs y is =
    let more : greatest (map f (xs ++ y ∷ [])) ≡ max (greatest (map f xs)) (f y) = max_push (λ xs. greatest (map f xs)) f refl (λ x xs. refl) xs y in
    omega (arith, is, more)

-- the predecessor at that place of the list that a loop goes over
pub is_job : (table : Table) (scenario : List (ℕ × ℕ)) → IsTable table → Fits table scenario → (j : ℕ) (items : List ℕ) (k x : ℕ) → items ≡ predecessors table j → k < length items → x ≡ get_or items k x → x < length table.jobs
is_job table scenario is_table fits j items k x e less is =
    omega (arith, is, ap (λ xs. get_or xs k x) e, predecessor_below table scenario is_table fits j k x (omega (arith, less, ap length e)))

pub is_next : (table : Table) (j : ℕ) (items : List ℕ) (k x : ℕ) → items ≡ predecessors table j → k < length items → x ≡ get_or items k x →
    take (k + 1) (predecessors table j) ≡ take k (predecessors table j) ++ x ∷ []
is_next table j items k x e less is =
    let below : k < length (predecessors table j) = omega (arith, less, ap length e) in
    take_more (predecessors table j) k x below ∙ ap (λ y. take k (predecessors table j) ++ y ∷ []) (ap (λ xs. get_or xs k x) (sym e) ∙ sym is)
