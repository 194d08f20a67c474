use Rattle.std.proofs.Common.{◌+◌, subst}
use Rattle.graph_builder.specs.Fit.{IsEdge, most_at}
use Rattle.graph_builder.specs.Filling.{level_of}
use Rattle.graph_builder.proofs.FitLemmas.{arrival-most, comparable-to, edge-next, most-more}
use Rattle.graph_builder.proofs.FillLemmas.{on-ok, taken-draft, taken-level}
use Rattle.graph_builder.proofs.filling.take_offer.Goals as goal

pub place-requires-clause-comparable : goal.place-requires-clause-comparable
place-requires-clause-comparable c =
    comparable-to c.args.table.now c.args.cores (most_at (c.args.level + 1)) c.args.draft.now.index c.args.draft.now.fronts.items c.step.new.into.state
    c.requires.draft.ready c.step.ensures.ready.is_state

pub returns-clause-taken : goal.returns-clause-taken
returns-clause-taken c =
    let edges = rw c.if-is_err.ensures.negation at c.push.ensures.items in
    on-ok c.note_front.result
    (λ e. taken-level c.args.table.now (level_of c.args.draft.now) c.args.from c.args.state.now.state c.step.new.into.state c.args.job c.args.window c.in_ok-to.to
    c.place.new.self c.push.new.self.items c.step.ensures.next c.in_ok-to.ensures.placed c.in_ok-to.ensures.place edges)
    c.note_front.ensures

pub returns-clause-draft : goal.returns-clause-draft
returns-clause-draft c =
    let edges = rw c.if-is_err.ensures.negation at c.push.ensures.items in
    let edge = subst (λ n. IsEdge c.args.table.now n (record { from = c.args.from; job = c.args.job; window = c.args.window; to = c.in_ok-to.to })) (most-more c.args.level)
    (edge-next c.args.table.now (most_at c.args.level) c.args.state.now.state c.args.from c.args.job c.in_ok-to.to c.args.window c.len-count.ensures.table (arrival-most c.args.level)
    c.requires.ready.in_limit c.requires.window) in
    on-ok c.note_front.result
    (λ e. taken-draft c.args.table.now c.args.cores (most_at (c.args.level + 1)) c.args.draft.now
    (record { index = c.place.new.self; edges = c.push.new.self; fronts = c.note_front.new.fronts }) c.step.new.into.state c.args.front c.in_ok-to.is_new c.in_ok-to.to
    (record { from = c.args.from; job = c.args.job; window = c.args.window; to = c.in_ok-to.to })
    c.requires.draft c.step.ensures.ready c.in_ok-to.ensures.placed c.in_ok-to.ensures.appended c.in_ok-to.ensures.place e edge edges)
    c.note_front.ensures
