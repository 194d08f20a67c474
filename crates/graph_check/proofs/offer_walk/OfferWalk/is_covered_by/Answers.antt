use Rattle.std.proofs.Common.{ap, sym, ◌∙◌, subst, arith}
use Rattle.sag_step.specs.Shape.{IsState}
use Rattle.sag_step.specs.Widen.{AreComparable, widens}
use Rattle.graph_check.specs.Turns.{offer_at}
use Rattle.graph_check.proofs.Offers.{are-places, is-step, covers-offer, own-fit}
use Rattle.graph_check.proofs.offer_walk.OfferWalk.is_covered_by.Goals as goal

pub index-from-requires : goal.index-from-requires
index-from-requires c =
    let w = c.self.inside in
    let there = are-places w.table.now w.cores w.states.items w.passed w.place.at w.place.windows.items w.place.place c.args.self.now c.self.view_is c.self.invariant.2 c.requires.left in
    omega (arith, there.in_states, w.states.ok.0)

pub index-requires : goal.index-requires
index-requires c =
    let w = c.self.inside in
    let there = are-places w.table.now w.cores w.states.items w.passed w.place.at w.place.windows.items w.place.place c.args.self.now c.self.view_is c.self.invariant.2 c.requires.left in
    omega (arith, there.in_windows, w.place.windows.ok.0)

pub make_next-requires-clause-state : goal.make_next-requires-clause-state
make_next-requires-clause-state c =
    let w = c.self.inside in
    (is-step w.table.now w.cores w.states.items w.passed w.place.at w.place.windows.items w.place.place c.args.self.now c.self.view_is c.self.invariant.1 c.self.invariant.2 c.requires.left
    c.index-from.result.now c.index-from.ensures c.index.result.now c.index.ensures w.scratch c.self.invariant.3).from

pub make_next-requires-clause-into : goal.make_next-requires-clause-into
make_next-requires-clause-into c =
    let w = c.self.inside in
    (is-step w.table.now w.cores w.states.items w.passed w.place.at w.place.windows.items w.place.place c.args.self.now c.self.view_is c.self.invariant.1 c.self.invariant.2 c.requires.left
    c.index-from.result.now c.index-from.ensures c.index.result.now c.index.ensures w.scratch c.self.invariant.3).into

pub make_next-requires-clause-in_limit : goal.make_next-requires-clause-in_limit
make_next-requires-clause-in_limit c =
    let w = c.self.inside in
    (is-step w.table.now w.cores w.states.items w.passed w.place.at w.place.windows.items w.place.place c.args.self.now c.self.view_is c.self.invariant.1 c.self.invariant.2 c.requires.left
    c.index-from.result.now c.index-from.ensures c.index.result.now c.index.ensures w.scratch c.self.invariant.3).fit.in_limit

pub make_next-requires-clause-window : goal.make_next-requires-clause-window
make_next-requires-clause-window c =
    let w = c.self.inside in
    (is-step w.table.now w.cores w.states.items w.passed w.place.at w.place.windows.items w.place.place c.args.self.now c.self.view_is c.self.invariant.1 c.self.invariant.2 c.requires.left
    c.index-from.result.now c.index-from.ensures c.index.result.now c.index.ensures w.scratch c.self.invariant.3).window

pub make_next-requires-clause-room : goal.make_next-requires-clause-room
make_next-requires-clause-room c =
    let w = c.self.inside in
    let step = is-step w.table.now w.cores w.states.items w.passed w.place.at w.place.windows.items w.place.place c.args.self.now c.self.view_is c.self.invariant.1 c.self.invariant.2 c.requires.left
    c.index-from.result.now c.index-from.ensures c.index.result.now c.index.ensures w.scratch c.self.invariant.3 in
    let few = c.scratch_has_room.ensures w.table.now w.cores c.index-from.result.now.state.state c.index.result.now.0 c.index.result.now.1 step.fit.is_state step.window in
    omega (arith, few, c.self.invariant.4)

pub covers-requires : goal.covers-requires
covers-requires c =
    let w = c.self.inside in
    let x = c.index-from.result.now.state in
    let step = is-step w.table.now w.cores w.states.items w.passed w.place.at w.place.windows.items w.place.place c.args.self.now c.self.view_is c.self.invariant.1 c.self.invariant.2 c.requires.left
    c.index-from.result.now c.index-from.ensures c.index.result.now c.index.ensures w.scratch c.self.invariant.3 in
    let next = c.next_is_state.ensures w.table.now w.cores x.state c.index.result.now.0 c.index.result.now.1 c.len-count.ensures.table step.fit.is_state step.window in
    subst (AreComparable c.args.state.now.state) (sym c.make_next.ensures.next)
    (c.shaped_are_comparable.ensures w.table.now w.cores c.args.state.now.state _ (own-fit w.table.now w.cores w.states.items w.passed c.args.self.now c.self.view_is c.args.state.now.state c.requires.fit).is_state next)

pub invariant_of-self : goal.invariant_of-self
invariant_of-self c =
    let w = c.self.inside in
    let x = c.index-from.result.now.state in
    let step = is-step w.table.now w.cores w.states.items w.passed w.place.at w.place.windows.items w.place.place c.args.self.now c.self.view_is c.self.invariant.1 c.self.invariant.2 c.requires.left
    c.index-from.result.now c.index-from.ensures c.index.result.now c.index.ensures w.scratch c.self.invariant.3 in
    let next = c.next_is_state.ensures w.table.now w.cores x.state c.index.result.now.0 c.index.result.now.1 c.len-count.ensures.table step.fit.is_state step.window in
    (c.self.invariant.0, c.self.invariant.1, c.self.invariant.2, subst (IsState w.table.now w.cores) (sym c.make_next.ensures.next) next, c.make_next.ensures.room ∙ c.self.invariant.4)

pub returns-clause-covers : goal.returns-clause-covers
returns-clause-covers c =
    let w = c.self.inside in
    let x = c.index-from.result.now.state in
    let step = is-step w.table.now w.cores w.states.items w.passed w.place.at w.place.windows.items w.place.place c.args.self.now c.self.view_is c.self.invariant.1 c.self.invariant.2 c.requires.left
    c.index-from.result.now c.index-from.ensures c.index.result.now c.index.ensures w.scratch c.self.invariant.3 in
    covers-offer c.args.self.now c.args.state.now.state c.covers.result _ (ap offer_at (sym c.self.view_is) ∙ step.offer)
    (c.covers.ensures ∙ ap (widens c.args.state.now.state) c.make_next.ensures.next)
