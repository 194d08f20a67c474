use Rattle.graph_check.proofs.Offers.{told-state}
use Rattle.graph_check.proofs.offer_walk.OfferWalk.state.Goals as goal

pub returns-clause-some : goal.returns-clause-some
returns-clause-some c =
    let w = c.self.inside in
    (told-state w.table.now w.cores w.states.items w.passed c.args.number c.args.self.now c.self.view_is c.self.invariant.1 c.get.result (rw (← c.deref.ensures.value) c.get.ensures.lookup.3)).some

pub returns-clause-fit : goal.returns-clause-fit
returns-clause-fit c =
    let w = c.self.inside in
    (told-state w.table.now w.cores w.states.items w.passed c.args.number c.args.self.now c.self.view_is c.self.invariant.1 c.get.result (rw (← c.deref.ensures.value) c.get.ensures.lookup.3)).fit

pub returns-clause-none : goal.returns-clause-none
returns-clause-none c =
    let w = c.self.inside in
    (told-state w.table.now w.cores w.states.items w.passed c.args.number c.args.self.now c.self.view_is c.self.invariant.1 c.get.result (rw (← c.deref.ensures.value) c.get.ensures.lookup.3)).none
