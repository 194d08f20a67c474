use Rattle.std.proofs.Common.{arith, ◌+◌, ◌∙◌, ap}
use Rattle.graph_check.specs.Turns.{level_states, offers_left}
use Rattle.graph_check.proofs.Offers.{left-next}
use Rattle.graph_check.proofs.offer_walk.settle.Goals as goal

pub loop-place-preserved : goal.loop-place-preserved
loop-place-preserved c =
    let level = level_states c.args.states.now in
    let old = c.loop-place.place in
    let own = c.in_ok-list_windows.ensures in
    record {
      own = own;
      left = ap (offers_left c.args.table.now level (old.at + 1)) own ∙ left-next c.args.table.now level old.at old.place old.windows.items (omega arith) ∙ c.loop-place.invariant.left;
    }
