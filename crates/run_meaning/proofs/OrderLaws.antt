-- Laws of the dispatch order.
use Rattle.std.proofs.Common.{◌≡◌, ℕ, suc, ◌+◌, Bool, true, false, cond, List, [], ◌∷◌, length, refl, ap, ◌∙◌, ◌||◌, arith}
use Rattle.std.specs.List.{list_any}
use Rattle.std.specs.Cmp.{IsTotalOrder, then_total, on_total, nat_cmp_total}
use Rattle.std.proofs.lemmas.List.FromFn.{length-range_with_len}
use Rattle.job_model.specs.Urgency.{urgency_total}
use Rattle.lists.specs.Numbers.{numbers_below}
use Rattle.job_model.specs.Table.{Table, job_at}
use Rattle.run_meaning.specs.declared.places.Place.{Place}
use Rattle.run_meaning.specs.Ready.{start_of}
use Rattle.run_meaning.specs.Order.{dispatch_cmp, dispatch_order, starts_earlier}
use Rattle.lists.proofs.SortedBy.{length-sorted_by}

pub dispatch_total : (table : Table) (schedule : List Place) → IsTotalOrder (dispatch_cmp table schedule)
dispatch_total table schedule = then_total (on_total (start_of schedule) nat_cmp_total) (on_total (job_at table) urgency_total)

pub length-dispatch_order : (table : Table) (schedule : List Place) → length (dispatch_order table schedule) ≡ length table.jobs
length-dispatch_order table schedule =
    length-sorted_by (starts_earlier table schedule) (numbers_below (length table.jobs)) ∙ length-range_with_len 0 (length table.jobs)
