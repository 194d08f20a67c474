-- The dispatch order has the numbers of all jobs, and no others.
use Rattle.std.proofs.Common.{◌≡◌, ℕ, ◌<◌, Bool, true, false, cond, List, [], ◌∷◌, length, map, get_or, refl, ◌∙◌, arith}
use Rattle.std.specs.Prelude.{Contains}
use Rattle.std.specs.List.{AllByRecursion}
use Rattle.std.specs.List.Sorted.{IsPermutation, IsStrictlySortedBy}
use Rattle.std.specs.declared.cmp.Ordering.{Ordering}
use Rattle.std.specs.declared.cmp.Ordering.TheVariants.{Less, Equal, Greater}
use Rattle.std.specs.Ordering.{is_lt}
use Rattle.std.proofs.lemmas.List.{get_or_default}
use Rattle.std.proofs.lemmas.List.FromFn.{length-range_with_len, get_or-range_with_len}
use Rattle.std.proofs.lemmas.List.Sorted.{Contains-permutation, IsPermutation-refl, IsPermutation-cons, IsPermutation-middle, IsPermutation-trans}
use Rattle.lists.specs.Numbers.{numbers_below}
use Rattle.job_model.specs.Table.{Table, IsTable}
use Rattle.run_meaning.specs.declared.places.Place.{Place}
use Rattle.run_meaning.specs.Order.{dispatch_cmp, dispatch_order, starts_earlier}
use Rattle.run_meaning.proofs.OrderLaws.{length-dispatch_order}
use Rattle.run_meaning.proofs.Sorted.{in_order}
use Rattle.lists.proofs.SortedBy.{IsPermutation-sorted_by, strictly}

module _ (table : Table) (schedule : List Place) where
  pub dispatch_permutation : IsPermutation (numbers_below (length table.jobs)) (dispatch_order table schedule)
  dispatch_permutation = IsPermutation-sorted_by (starts_earlier table schedule) (numbers_below (length table.jobs))

  -- the number of each job is in the order
  pub dispatch_contains : (j : ℕ) → j < length table.jobs → Contains (dispatch_order table schedule) j
  dispatch_contains j below =
      Contains-permutation (numbers_below (length table.jobs)) (dispatch_order table schedule) j dispatch_permutation
      (j, omega (arith, below, length-range_with_len 0 (length table.jobs)), omega (arith, get_or-range_with_len 0 (length table.jobs) j j below))

  pub dispatch_strict : IsTable table → IsStrictlySortedBy (dispatch_cmp table schedule) (dispatch_order table schedule)
  dispatch_strict is_table = strictly (dispatch_cmp table schedule) (dispatch_order table schedule) (in_order table schedule is_table)

  -- the place of a job in the order
  pub record Placed (i : ℕ) : Type 0 where
    pub at : ℕ
    pub below : at < length table.jobs
    pub is : get_or (dispatch_order table schedule) at 0 ≡ i

  pub placed : (i : ℕ) → i < length table.jobs → Placed i
  placed i is_job = by (dispatch_contains i is_job)
    where
      by : Contains (dispatch_order table schedule) i → Placed i
      by (k, below, is) = record {
        at = k;
        below = omega (arith, below, length-dispatch_order table schedule);
        is = get_or_default (dispatch_order table schedule) k 0 i below ∙ is;
      }
