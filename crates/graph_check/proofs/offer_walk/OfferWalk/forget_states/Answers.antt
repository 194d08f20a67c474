use Rattle.std.proofs.Common.{refl}
use Rattle.graph_check.proofs.Offers.{no-states-fit, none-stands}
use Rattle.graph_check.proofs.offer_walk.OfferWalk.forget_states.Goals as goal

pub invariant_of-self : goal.invariant_of-self
invariant_of-self c =
    let w = c.self.inside in (
      c.self.invariant.0,
      rw c.new.ensures.items (no-states-fit w.table.now w.cores),
      rw (c.new.ensures.items, c.new-2.ensures.items) (none-stands w.table.now w.cores w.place.at w.place.place w.passed),
      c.self.invariant.3,
      c.self.invariant.4,
    )
