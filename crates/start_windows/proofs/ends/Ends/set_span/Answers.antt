use Rattle.std.proofs.Common.{◌<◌, arith, length, subst, sym}
use Rattle.start_windows.specs.Ends.{HeldEnds}
use Rattle.start_windows.proofs.EndLists.{IsEnds-set}
use Rattle.start_windows.proofs.ends.Ends.set_span.Goals as goal

pub invariant_of-self : goal.invariant_of-self
invariant_of-self c =
    let e = c.index_mut.result.now in
    let below = subst (λ (h : HeldEnds). c.args.place < length h.items) (sym c.self.view_is) c.requires in
    (IsEnds-set _ c.from.result e c.args.span c.self.invariant.0 (omega arith) (sym c.index_mut.ensures.value) (omega arith), c.self.invariant.1)
