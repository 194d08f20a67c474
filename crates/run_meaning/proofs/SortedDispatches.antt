-- Jobs that are sorted by start and rank stand in the order of dispatch.
use Rattle.std.proofs.Common.{◌≡◌, ◌≢◌, ℕ, ◌<◌, true, List, length, map, refl, sym, ap, ◌∙◌, arith}
use Rattle.std.specs.Prelude.{nat_lt}
use Rattle.std.specs.Cmp.{IsTotalOrder, then_total, on_total, nat_cmp_total}
use Rattle.std.specs.List.Sorted.{IsPermutation, IsSortedBy}
use Rattle.std.specs.declared.cmp.Ordering.{Ordering}
use Rattle.std.specs.declared.cmp.Ordering.TheVariants.{Less, Equal, Greater}
use Rattle.std.specs.Ordering.{is_lt, nat_cmp, ordering_then}
use Rattle.std.proofs.lemmas.Bool.{cond-true}
use Rattle.std.proofs.lemmas.List.Sorted.{IsPermutation-map, IsPermutation-sym, IsPermutation-trans}
use Rattle.lists.specs.Numbers.{numbers_below}
use Rattle.lists.proofs.OneOrder.{sorted_is}
use Rattle.lists.proofs.SortedBy.{IsStrictlySortedBy-map}
use Rattle.job_model.specs.Laws.{RanksOrderJobs}
use Rattle.job_model.specs.Ranks.{rank_of}
use Rattle.job_model.specs.Table.{Table, IsTable, has_urgency_over}
use Rattle.job_model.specs.Urgency.{urgency_cmp}
use Rattle.run_meaning.specs.declared.places.Place.{Place}
use Rattle.run_meaning.specs.Ready.{start_of}
use Rattle.run_meaning.specs.Order.{dispatch_cmp, dispatch_order}
use Rattle.run_meaning.proofs.OrderMembers.{dispatch_permutation, dispatch_strict}
use Rattle.run_meaning.proofs.Sorted.{dispatch_below}
use Rattle.run_meaning.specs.declared.order.Dispatch.{Dispatch}
use Rattle.run_meaning.specs.Dispatches.{dispatch_of}

-- the order of the keys of two jobs
abbrev pub key_cmp : Dispatch → Dispatch → Ordering
key_cmp a b = ordering_then (nat_cmp a.start b.start) (nat_cmp a.rank b.rank)

key_total : IsTotalOrder key_cmp
key_total = then_total (on_total (λ (job : Dispatch). job.start) nat_cmp_total) (on_total (λ (job : Dispatch). job.rank) nat_cmp_total)

-- where one comparison after another says less, so does the other one
less_then : (a b c : Ordering) → (b ≡ Less → c ≡ Less) → ordering_then a b ≡ Less → ordering_then a c ≡ Less
less_then Less b c so e = refl
less_then Equal b c so e = so e
less_then Greater b c so e = cc

module _ (ranks_order : RanksOrderJobs) (table : Table) (schedule : List Place) (is_table : IsTable table) where
  -- the more urgent of two jobs has the smaller rank
  ranked : (i j : ℕ) → i < length table.jobs → j < length table.jobs → has_urgency_over table i j ≡ true → nat_cmp (rank_of table i) (rank_of table j) ≡ Less
  ranked i j li lj e = cond-true (nat_lt (rank_of table i) (rank_of table j)) Less _ (sym (ranks_order table i j is_table li lj).0 ∙ e)

  -- of two jobs the one that is dispatched first has the smaller key
  keys_rise : (i j : ℕ) → i < length table.jobs → j < length table.jobs → dispatch_cmp table schedule i j ≡ Less → key_cmp (dispatch_of table schedule i) (dispatch_of table schedule j) ≡ Less
  keys_rise i j li lj =
      less_then (nat_cmp (start_of schedule i) (start_of schedule j)) _ (nat_cmp (rank_of table i) (rank_of table j)) (λ e. ranked i j li lj (ap is_lt e))

  -- all jobs, when they are sorted
  pub sorted_dispatched : (jobs sorted : List Dispatch) → jobs ≡ map (dispatch_of table schedule) (numbers_below (length table.jobs)) →
      IsPermutation jobs sorted → IsSortedBy (λ a b. is_lt (key_cmp a b)) sorted → sorted ≡ map (dispatch_of table schedule) (dispatch_order table schedule)
  sorted_dispatched jobs sorted is moved up =
      let at = dispatch_of table schedule in
      let numbers = numbers_below (length table.jobs) in
      let order = dispatch_order table schedule in
      sorted_is key_total (map at order) sorted
      (IsStrictlySortedBy-map at (dispatch_cmp table schedule) key_cmp (λ j. j < length table.jobs) keys_rise order (dispatch_below table schedule) (dispatch_strict table schedule is_table))
      (IsPermutation-trans (map at order) (map at numbers) sorted (IsPermutation-sym (map at numbers) (map at order) (IsPermutation-map at numbers order (dispatch_permutation table schedule))) (rw is at moved))
      up
