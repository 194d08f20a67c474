use Rattle.std.proofs.Common.{◌≡◌, ◌<◌, length, arith, is_ok, true, IsTrue, subst, sym}
use Rattle.start_windows.specs.Ends.{HeldEnds, is_above}
use Rattle.start_windows.proofs.EndLists.{IsEnds-push}
use Rattle.start_windows.proofs.ends.Ends.put.Goals as goal

pub invariant_of-self : goal.invariant_of-self
invariant_of-self c =
    let held : HeldEnds = record { items = c.self.inside.items.items; room = c.self.inside.room } in
    let above = subst (λ (h : HeldEnds). IsTrue (is_above c.args.job h.items)) (sym c.self.view_is) c.requires.above in
    let less = subst (λ (h : HeldEnds). length h.items < h.room) (sym c.self.view_is) c.requires.room in
    let ok : is_ok c.push.result ≡ true = c.push.ensures.succeeds (omega arith) in
    (rw (c.push.ensures.items, ok) (IsEnds-push held c.args.job held.room c.args.span c.self.invariant.0 above (omega arith) less c.self.invariant.0.room_fits), omega arith)
