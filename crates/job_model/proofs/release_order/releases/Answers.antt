use Rattle.std.proofs.Common.{sym, zero-add}
use Rattle.std.proofs.lemmas.List.FromFn.{map-range_with_len_more}
use Rattle.job_model.specs.Table.{job_at, table_of}
use Rattle.job_model.proofs.release_order.releases.Goals as goal

pub loop-i-preserved : goal.loop-i-preserved
loop-i-preserved c =
    rw (c.in_ok-push.ensures.items, c.loop-i.invariant)
    (sym (map-range_with_len_more (λ j. ((job_at (table_of c.args.jobs.now) j).rmin, j)) 0 c.loop-i.i c.loop-i.i (zero-add c.loop-i.i)))
