use Rattle.std.proofs.Common.{◌≡◌, ◌++◌, List, ap, arith, length, subst, sym, ◌∙◌}
use Rattle.std.specs.List.{AllByRecursion}
use Rattle.std.proofs.lemmas.List.{length-map}
use Rattle.sag_step.specs.State.{HeldState, states_of}
use Rattle.sag_graph.specs.declared.edge.Edge.{Edge}
use Rattle.sag_graph.specs.Lines.{level_lines}
use Rattle.graph_builder.specs.Standing.{Standing}
use Rattle.graph_builder.specs.Writing.{IsTimed, IsWritable, text_of}
use Rattle.graph_builder.proofs.FillLemmas.{on-ok}
use Rattle.graph_builder.proofs.StandLemmas.{stand-few, stand-root}
use Rattle.graph_builder.proofs.WritableLemmas.{are_writable}
use Rattle.graph_builder.proofs.level_builder.LevelBuilder.write_level.Goals as goal

pub write_level-requires-clause-one : goal.write_level-requires-clause-one
write_level-requires-clause-one c =
    let b = c.self.inside in
    let s : Standing = record { table = b.table.now; cores = b.cores; budget = b.budget; level = b.level; states = states_of b.states.items; edges = b.edges.items; spans = b.spans.items; state_total = b.state_total; edge_total = b.edge_total } in
    λ zero.
    let one = stand-root s c.self.invariant.0 zero in
    let count : length c.deref.result.now ≡ length b.states.items = ap length c.deref.ensures.value in
    omega (arith, one, count, length-map b.states.items (λ (h : HeldState). h.state))

pub write_level-requires-clause-states : goal.write_level-requires-clause-states
write_level-requires-clause-states c =
    let b = c.self.inside in
    let stands = c.self.invariant.0 in
    rw c.deref.ensures.value
    (are_writable b.table.now b.cores stands.is_table stands.few_cores b.level stands.is_level (states_of b.states.items) b.fronts.items c.self.invariant.1)

pub write_level-requires-clause-few : goal.write_level-requires-clause-few
write_level-requires-clause-few c =
    let b = c.self.inside in
    let s : Standing = record { table = b.table.now; cores = b.cores; budget = b.budget; level = b.level; states = states_of b.states.items; edges = b.edges.items; spans = b.spans.items; state_total = b.state_total; edge_total = b.edge_total } in
    let few = stand-few s c.self.invariant.0 in
    let count : length c.deref.result.now ≡ length b.states.items = ap length c.deref.ensures.value in
    omega (arith, few, count, length-map b.states.items (λ (h : HeldState). h.state), c.self.invariant.0.few_states, c.self.invariant.3)

pub write_level-requires-clause-edges : goal.write_level-requires-clause-edges
write_level-requires-clause-edges c = rw c.deref-2.ensures.value c.self.invariant.4

pub returns-clause-ok : goal.returns-clause-ok
unfolding text_of
returns-clause-ok c =
    on-ok c.write_level.result
    (λ e.
    e
    ∙ ap (λ (hs : List HeldState). c.args.into.now.items ++ text_of (level_lines (c.self.inside.level, record { states = states_of hs; edges = c.deref-2.result.now }))) c.deref.ensures.value
    ∙ ap (λ (es : List Edge). c.args.into.now.items ++ text_of (level_lines (c.self.inside.level, record { states = states_of c.self.inside.states.items; edges = es }))) c.deref-2.ensures.value
    ∙ ap (λ (t : Standing). c.args.into.now.items ++ text_of (level_lines (t.level, record { states = t.states; edges = t.edges }))) c.self.view_is)
    c.write_level.ensures.ok
