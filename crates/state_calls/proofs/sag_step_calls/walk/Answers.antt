use Rattle.std.proofs.Common.{◌+◌, length, subst, sym, arith}
use Rattle.sag_step.specs.State.{SystemState}
use Rattle.state_calls.proofs.Walks.{IsReached, IsReached-root, IsReached-next, leaves_room, on_its_cores, scratch_room, Shaped-reached, state_window-from}
use Rattle.state_calls.proofs.sag_step_calls.walk.Goals as goal

pub loop-place-init : goal.loop-place-init
loop-place-init g c = IsReached-root c.args.table.now c.args.cores c.root_is_shaped.ensures c.in_ok-state.state 0 c.in_ok-state.ensures c.requires.cores

pub step_into-requires-clause-state : goal.step_into-requires-clause-state
step_into-requires-clause-state g c =
    on_its_cores c.args.table.now c.args.cores c.loop-place.place c.loop-place.state.state c.loop-place.invariant c.loop-place.state.state c.loop-place.invariant.is_state

pub step_into-requires-clause-into : goal.step_into-requires-clause-into
step_into-requires-clause-into g c =
    let root = IsReached-root c.args.table.now c.args.cores c.root_is_shaped.ensures c.in_ok-next.next (length c.args.table.now.jobs) c.in_ok-next.ensures c.requires.cores in
    on_its_cores c.args.table.now c.args.cores c.loop-place.place c.loop-place.state.state c.loop-place.invariant c.in_ok-next.next.state root.is_state

pub step_into-requires-clause-in_limit : goal.step_into-requires-clause-in_limit
step_into-requires-clause-in_limit g c =
    leaves_room c.args.table.now c.args.cores c.loop-place.place c.loop-place.state.state c.loop-place.invariant (omega (arith, c.requires.short))

pub step_into-requires-clause-room : goal.step_into-requires-clause-room
step_into-requires-clause-room g c =
    let state = c.loop-place.state.state in
    let eligible =
    state_window-from c.args.table.now state c.loop-place.state.room c.index-path-place.result c.in-Some.found c.set.result.now c.ends.result.now c.first_core-first.result c.window.result
    c.set.ensures c.ends.ensures c.first_core-first.ensures c.window.ensures c.in-Some.is in
    let fewer = c.scratch_has_room.ensures c.args.table.now c.args.cores state c.index-path-place.result c.in-Some.found c.loop-place.invariant.is_state eligible in
    omega (arith, fewer, scratch_room c.args.table.now c.args.cores c.in_ok-next.next c.in_ok-next.ensures)

pub loop-place-preserved : goal.loop-place-preserved
loop-place-preserved g c =
    let state = c.loop-place.state.state in
    let eligible =
    state_window-from c.args.table.now state c.loop-place.state.room c.index-path-place.result c.in-Some.found c.set.result.now c.ends.result.now c.first_core-first.result c.window.result
    c.set.ensures c.ends.ensures c.first_core-first.ensures c.window.ensures c.in-Some.is in
    subst (λ (s : SystemState). IsReached c.args.table.now c.args.cores (c.loop-place.place + 1) s) (sym c.step_into.ensures.next)
    (IsReached-next c.args.table.now c.args.cores c.loop-place.place state c.loop-place.invariant c.index-path-place.result c.in-Some.found c.len.ensures.table eligible)

pub returns : goal.returns
returns g c =
    Shaped-reached c.args.table.now c.args.cores c.loop-place.place c.loop-place.state.state c.loop-place.invariant (omega (arith, c.requires.short))
