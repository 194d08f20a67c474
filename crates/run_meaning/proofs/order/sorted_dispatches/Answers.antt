use Rattle.std.proofs.Common.{rules}
use Rattle.std.proofs.lemmas.List.Sorted.{answers_always}
use Rattle.run_meaning.specs.Dispatches.{dispatch_key}
use Rattle.run_meaning.proofs.SortedDispatches.{sorted_dispatched}
use Rattle.run_meaning.proofs.order.sorted_dispatches.Goals as goal

pub returns : goal.returns
returns c =
    sorted_dispatched c.ranks_order_jobs.ensures _ _ c.dispatches.ensures.table _ _ c.in_ok-jobs.ensures.jobs c.sort_unstable_by_key.ensures.permutation
    (c.sort_unstable_by_key.ensures.sorted dispatch_key (answers_always _ _ _ (λ f a r g h. search rules)))
