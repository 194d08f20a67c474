use Rattle.std.proofs.Common.{◌≡◌, false}
use Rattle.std.specs.Prelude.{is_err}
use Rattle.graph_check.specs.Turns.{level_states}
use Rattle.graph_check.proofs.Offers.{by-ok, fit-of-view, left-first, no-states-fit, none-stands, settled-stands}
use Rattle.graph_check.proofs.offer_walk.OfferWalk.begin.Goals as goal

pub invariant_of-self : goal.invariant_of-self
invariant_of-self c =
    let w = c.self.inside in (
      c.self.invariant.0,
      rw c.clear.ensures.items (no-states-fit w.table.now w.cores),
      rw (c.clear.ensures.items, c.clear-then-is_err.ensures.items)
          (none-stands w.table.now w.cores c.begin_at-begun.new.place.at c.begin_at-begun.new.place.place 0),
      c.self.invariant.3,
      c.self.invariant.4,
    )

pub invariant_of-self-else-is_err : goal.invariant_of-self-else-is_err
invariant_of-self-else-is_err c =
    let w = c.self.inside in
    let new = c.begin_at-begun.new.place in
    let fine : is_err c.begin_at-begun.result ≡ false = cc in (
      c.self.invariant.0,
      fit-of-view w.table.now w.cores w.states.items w.passed c.args.self.now c.self.view_is c.args.states.items c.requires.fit,
      settled-stands w.table.now w.cores (level_states c.args.states.items) 0 new.at new.windows.items new.place _
          (by-ok c.begin_at-begun.result fine (rw c.deref.ensures.value at c.begin_at-begun.ensures.own))
          (by-ok c.begin_at-begun.result fine (rw c.deref.ensures.value at c.begin_at-begun.ensures.left))
          (by-ok c.begin_at-begun.result fine (rw c.deref.ensures.value at c.begin_at-begun.ensures.settled))
          (left-first w.table.now (level_states c.args.states.items)),
      c.self.invariant.3,
      c.self.invariant.4,
    )
