use Rattle.std.proofs.Common.{◌≡◌, ◌+◌, false, arith}
use Rattle.std.specs.Prelude.{is_err}
use Rattle.graph_check.specs.Turns.{level_states}
use Rattle.graph_check.proofs.Offers.{are-places, by-ok, no-states-fit, none-stands, passed-turn, settled-stands}
use Rattle.graph_check.proofs.offer_walk.OfferWalk.pass.Goals as goal

pub overflow_add-self : goal.overflow_add-self
overflow_add-self c =
    let w = c.self.inside in
    let there = are-places w.table.now w.cores w.states.items w.passed w.place.at w.place.windows.items w.place.place c.args.self.now c.self.view_is c.self.invariant.2 c.requires.left in
    omega (arith, there.in_windows, w.place.windows.ok.0, w.place.windows.small)

pub invariant_of-self : goal.invariant_of-self
invariant_of-self c =
    let w = c.self.inside in (
      c.self.invariant.0,
      rw c.clear.ensures.items (no-states-fit w.table.now w.cores),
      rw (c.clear.ensures.items, c.clear-then-is_err.ensures.items)
          (none-stands w.table.now w.cores c.settle-settled.new.place.at c.settle-settled.new.place.place (w.passed + 1)),
      c.self.invariant.3,
      c.self.invariant.4,
    )

pub invariant_of-self-else-is_err : goal.invariant_of-self-else-is_err
invariant_of-self-else-is_err c =
    let w = c.self.inside in
    let new = c.settle-settled.new.place in
    let fine : is_err c.settle-settled.result ≡ false = cc in
    let turn = passed-turn w.table.now w.cores w.states.items w.passed w.place.at w.place.windows.items w.place.place c.args.self.now c.self.view_is c.self.invariant.2 c.requires.left in (
      c.self.invariant.0,
      c.self.invariant.1,
      settled-stands w.table.now w.cores (level_states w.states.items) (w.passed + 1) new.at new.windows.items new.place _
          (by-ok c.settle-settled.result fine (rw c.deref.ensures.value at c.settle-settled.ensures.own))
          (by-ok c.settle-settled.result fine (rw c.deref.ensures.value at c.settle-settled.ensures.left))
          (by-ok c.settle-settled.result fine (rw c.deref.ensures.value at c.settle-settled.ensures.settled))
          turn,
      c.self.invariant.3,
      c.self.invariant.4,
    )
