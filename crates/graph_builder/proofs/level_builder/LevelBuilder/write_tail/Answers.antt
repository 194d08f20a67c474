use Rattle.std.proofs.Common.{◌≡◌, ◌++◌, List, ap, ◌∙◌}
use Rattle.std.specs.Prelude.{Option}
use Rattle.sag_time.specs.Interval.{Interval}
use Rattle.sag_step.specs.State.{states_of}
use Rattle.sag_graph.specs.Lines.{tail_lines}
use Rattle.graph_builder.specs.Standing.{Standing}
use Rattle.graph_builder.specs.Writing.{text_of}
use Rattle.graph_builder.proofs.FillLemmas.{on-ok}
use Rattle.graph_builder.proofs.StandLemmas.{stand-spans}
use Rattle.graph_builder.proofs.level_builder.LevelBuilder.write_tail.Goals as goal

pub write_tail-requires-clause-count : goal.write_tail-requires-clause-count
write_tail-requires-clause-count c =
    let b = c.self.inside in
    let s : Standing = record { table = b.table.now; cores = b.cores; budget = b.budget; level = b.level; states = states_of b.states.items; edges = b.edges.items; spans = b.spans.items; state_total = b.state_total; edge_total = b.edge_total } in
    rw c.deref.ensures.value (stand-spans s c.self.invariant.0)

pub write_tail-requires-clause-fit : goal.write_tail-requires-clause-fit
write_tail-requires-clause-fit c = rw c.deref.ensures.value c.self.invariant.5

pub returns-clause-ok : goal.returns-clause-ok
unfolding text_of
returns-clause-ok c =
    on-ok c.write_tail.result
    (λ e.
    e
    ∙ ap (λ (spans : List (Option Interval)). c.args.into.now.items ++ text_of (tail_lines c.self.inside.table.now spans)) c.deref.ensures.value
    ∙ ap (λ (t : Standing). c.args.into.now.items ++ text_of (tail_lines t.table t.spans)) c.self.view_is)
    c.write_tail.ensures.ok
