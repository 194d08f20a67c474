use Rattle.std.proofs.Common.{refl, ap, sym, ◌∙◌}
use Rattle.start_windows.specs.Ends.{is_above}
use Rattle.graph_check.proofs.LineEnds.{bad-job, bad-span, bad-order, here}
use Rattle.graph_check.proofs.line_states.ends_of_line.Goals as goal

pub returns-then-item-from-clause-none : goal.returns-then-item-from-clause-none
returns-then-item-from-clause-none c =
    bad-job c.args.size c.args.list.now c.loop-item.item-index c.loop-item-test.true (rw c.from.ensures at c.if-item-from.true)

pub returns-in_default-clause-none : goal.returns-in_default-clause-none
returns-in_default-clause-none c =
    bad-span c.args.size c.args.list.now c.loop-item.item-index c.loop-item-test.true (c.in_default.ensures.none.0 refl)

pub returns-then-not-is_last-clause-none : goal.returns-then-not-is_last-clause-none
returns-then-not-is_last-clause-none c =
    let list = c.args.list.now in
    let i = c.loop-item.item-index in
    let above = c.in_ok-is_last.ensures.above in
    bad-order c.args.size list i c.loop-item-test.true
    (ap (is_above (here c.args.size list i c.loop-item-test.true).job) (sym c.loop-item.invariant.items) ∙ sym above ∙ c.if-not-is_last.true)
