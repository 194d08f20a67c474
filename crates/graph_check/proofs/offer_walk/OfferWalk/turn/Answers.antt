use Rattle.std.proofs.Common.{◌∙◌}
use Rattle.graph_check.proofs.Offers.{told-none, told-start, told-turn}
use Rattle.graph_check.proofs.offer_walk.OfferWalk.turn.Goals as goal

pub returns-in_err-job-clause-turn : goal.returns-in_err-job-clause-turn
returns-in_err-job-clause-turn c =
    let w = c.self.inside in
    c.from_residual.ensures
    ∙ told-none w.table.now w.cores w.states.items w.passed w.place.at w.place.windows.items w.place.place c.args.self.now c.self.view_is c.self.invariant.2
    (rw (← c.deref.ensures.value) c.in_err-job.ensures.lookup.3)

pub returns-clause-turn : goal.returns-clause-turn
returns-clause-turn c =
    let w = c.self.inside in
    let h = rw c.deref.ensures.value at c.in_ok-job.ensures.lookup in
    told-turn w.table.now w.cores w.states.items w.passed w.place.at w.place.windows.items w.place.place c.args.self.now c.self.view_is c.self.invariant.2
    c.in_ok-job.field-0.now h.3.0 h.1

pub returns-in_err-job-clause-start : goal.returns-in_err-job-clause-start
returns-in_err-job-clause-start c = rw c.from_residual.ensures tt

pub returns-clause-start : goal.returns-clause-start
returns-clause-start c =
    let w = c.self.inside in
    let h = rw c.deref.ensures.value at c.in_ok-job.ensures.lookup in
    told-start w.table.now w.cores w.states.items w.passed w.place.at w.place.windows.items w.place.place c.args.self.now c.self.view_is c.self.invariant.2
    c.in_ok-job.field-0.now h.3.0 h.1
