use Rattle.std.proofs.Common.{sym, zero-add}
use Rattle.std.proofs.lemmas.List.FromFn.{map-range_with_len_more}
use Rattle.run_meaning.specs.Dispatches.{dispatch_of}
use Rattle.run_meaning.proofs.order.dispatches.Goals as goal

pub loop-no-preserved : goal.loop-no-preserved
loop-no-preserved c =
    rw (c.in_ok-push.ensures.items, c.loop-no.invariant, c.dispatch_at.ensures)
    (sym (map-range_with_len_more (dispatch_of c.args.table.now c.args.schedule.now) 0 c.loop-no.no c.loop-no.no (zero-add c.loop-no.no)))
