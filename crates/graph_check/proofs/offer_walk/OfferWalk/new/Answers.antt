use Rattle.std.proofs.Common.{ap, sym, subst}
use Rattle.sag_step.specs.Shape.{IsState}
use Rattle.sag_step.specs.State.{HeldState}
use Rattle.graph_check.proofs.Offers.{none-stands, no-states-fit}
use Rattle.graph_check.proofs.offer_walk.OfferWalk.new.Goals as goal

pub invariant_of-result : goal.invariant_of-result
invariant_of-result c =
    let table = c.args.table.now in
    let m = c.args.cores in (
      c.requires,
      rw c.new.ensures.items (no-states-fit table m),
      rw (c.new.ensures.items, c.new-2.ensures.items) (none-stands table m 0 0 0),
      subst (λ (h : HeldState). IsState table m h.state) (sym c.in_ok-scratch.ensures) (c.root_is_shaped.ensures table m c.requires).is_state,
      ap (λ (h : HeldState). h.room) c.in_ok-scratch.ensures,
    )
