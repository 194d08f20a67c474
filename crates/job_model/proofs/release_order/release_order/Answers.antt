use Rattle.std.proofs.Common.{rules}
use Rattle.std.proofs.lemmas.List.Sorted.{answers_always}
use Rattle.job_model.specs.Table.{table_of}
use Rattle.job_model.proofs.ReleaseLemmas.{release_order-sorted}
use Rattle.job_model.proofs.release_order.release_order.Goals as goal

pub returns : goal.returns
returns c =
    release_order-sorted (table_of c.args.jobs.now) c.sort_unstable_by_key.new.self.items (rw c.in_ok-order.ensures at c.sort_unstable_by_key.ensures.permutation)
    (c.sort_unstable_by_key.ensures.sorted (λ e. (e.0, e.1)) (answers_always _ _ _ (λ f a r g h. search rules)))
