use Rattle.std.proofs.Common.{ap, ◌∙◌, subst, sym}
use Rattle.sag_time.specs.Interval.{Interval}
use Rattle.job_sets.specs.Subset.{Subset}
use Rattle.start_windows.specs.Ends.{HeldEnds}
use Rattle.start_windows.specs.Eligible.{IsFront, eligible_windows}
use Rattle.graph_check.specs.Turns.{level_states}
use Rattle.graph_check.proofs.Offers.{source-at, state-past, windows-here, windows-past}
use Rattle.graph_check.proofs.offer_walk.list_windows.Goals as goal

pub returns-in_default : goal.returns-in_default
returns-in_default c =
    c.clear.ensures.items ∙ sym (windows-past c.args.table.now (level_states c.args.states.now) c.args.at (state-past c.args.states.now c.args.at c.in_default.ensures.lookup.3))

pub first_core-requires-clause-some : goal.first_core-requires-clause-some
first_core-requires-clause-some c =
    let h = c.in-Some.ensures.lookup in
    (source-at c.args.table.now c.args.cores c.args.states.now c.args.at c.in-Some.entry.now c.requires.states h.3.0 h.1).some

pub first_core-requires-clause-order : goal.first_core-requires-clause-order
first_core-requires-clause-order c =
    let h = c.in-Some.ensures.lookup in
    (source-at c.args.table.now c.args.cores c.args.states.now c.args.at c.in-Some.entry.now c.requires.states h.3.0 h.1).fit.is_state.shape.in_order

pub eligible-requires-clause-size : goal.eligible-requires-clause-size
eligible-requires-clause-size c =
    let h = c.in-Some.ensures.lookup in
    ap (λ (s : Subset). s.size) c.set.ensures
    ∙ (source-at c.args.table.now c.args.cores c.args.states.now c.args.at c.in-Some.entry.now c.requires.states h.3.0 h.1).fit.is_state.of_table

pub returns : goal.returns
returns c =
    let h = c.in-Some.ensures.lookup in
    let s = c.in-Some.entry.now.state.state in
    let table = c.args.table.now in
    let source = source-at table c.args.cores c.args.states.now c.args.at c.in-Some.entry.now c.requires.states h.3.0 h.1 in
    c.in_ok-eligible.ensures.windows
    ∙ ap (λ (set : Subset). eligible_windows table set.members c.ends.result.now.items c.first_core.result) c.set.ensures
    ∙ ap (λ (ends : HeldEnds). eligible_windows table s.set.members ends.items c.first_core.result) c.ends.ensures
    ∙ ap (λ (first : Interval). eligible_windows table s.set.members s.ends first) c.first_core.ensures
    ∙ sym (windows-here table (level_states c.args.states.now) c.args.at s source.at_place)

pub eligible-requires-clause-front : goal.eligible-requires-clause-front
eligible-requires-clause-front c =
    let h = c.in-Some.ensures.lookup in
    subst (λ (s : Subset). IsFront c.args.table.now s.members c.in-Some.entry.now.front) (sym c.set.ensures)
    (source-at c.args.table.now c.args.cores c.args.states.now c.args.at c.in-Some.entry.now c.requires.states h.3.0 h.1).level_state.front
