use Rattle.std.proofs.Common.{◌≡◌, ◌∷◌, ◌<◌, ◌≤◌, [], ap, arith, length, subst, sym, ◌∙◌}
use Rattle.std.proofs.lemmas.List.{get_or_read, length-map}
use Rattle.sag_step.specs.State.{HeldState, states_of}
use Rattle.graph_builder.specs.Writing.{origin_at, text_of}
use Rattle.graph_builder.proofs.LineLemmas.{origin-read, origins-length, state_at, states_next, states_past}
use Rattle.graph_builder.proofs.TextLemmas.{begins_more, line_moved, lines_moved}
use Rattle.graph_builder.proofs.WritableLemmas.{writable_at}
use Rattle.graph_builder.proofs.writing.write_states.Goals as goal

pub index-requires : goal.index-requires
index-requires c =
    omega (arith, ap length c.in_ok-origins.ensures, origins-length c.args.edges.now (length c.args.states.now), c.loop-i-test.true, c.in_ok-origins.origins.ok.0)

pub write_state-requires : goal.write_state-requires
write_state-requires c = writable_at c.args.states.now c.loop-i.i c.index-states-i.result c.requires c.loop-i-test.true c.index-states-i.is

pub loop-i-preserved : goal.loop-i-preserved
loop-i-preserved c =
    let i = c.loop-i.i in
    let n = length c.args.states.now in
    let x = c.index-states-i.result in
    let origins = c.in_ok-origins.origins.items in
    let at = state_at c.args.states.now i x c.loop-i-test.true c.index-states-i.is in
    let below : i < length origins = omega (arith, ap length c.in_ok-origins.ensures, origins-length c.args.edges.now n, c.loop-i-test.true) in
    let own = origin-read c.args.edges.now n i origins _ c.loop-i-test.true c.in_ok-origins.ensures (get_or_read origins i _ below c.index.ensures (record { parent = 0; job = 0 })) in
    let now = c.in_ok-write_state.ensures.ok in
    record {
      lines = line_moved c.loop-i.into.items c.write_state.new.into.items _ _ _ _ (states_next c.args.edges.now (states_of c.args.states.now) i x.state _ at.0 at.1 own) now c.loop-i.invariant.lines;
      begins = begins_more c.args.into.now.items c.loop-i.into.items c.write_state.new.into.items _ c.loop-i.invariant.begins now;
    }

pub returns-clause-ok : goal.returns-clause-ok
returns-clause-ok c =
    let past : length (states_of c.args.states.now) ≤ c.loop-i.i = omega (arith, c.loop-i-test.false, length-map c.args.states.now (λ (h : HeldState). h.state)) in
    lines_moved c.loop-i.into.items _ _ (states_past c.args.edges.now (states_of c.args.states.now) c.loop-i.i past) c.loop-i.invariant.lines
