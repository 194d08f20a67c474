use Rattle.std.proofs.Common.{◌∙◌}
use Rattle.graph_memory.proofs.Built.{edges-told, graph-held, graph-is, states-told}
use Rattle.graph_memory.proofs.building.gather.Goals as goal

pub new-requires-clause-held : goal.new-requires-clause-held
new-requires-clause-held c =
    graph-held c.args.table.now c.args.cores c.args.builder.now c.args.levels.items c.requires.built c.totals-totals.ensures.standing c.graphs_are_held.ensures c.in_ok-spans.spans.items c.in_ok-spans.ensures

pub new-requires-clause-states : goal.new-requires-clause-states
new-requires-clause-states c =
    states-told c.args.table.now c.args.cores c.args.builder.now c.args.levels.items c.requires.built c.totals-totals.ensures.standing c.in_ok-spans.spans.items c.totals-totals.result.0 c.in_ok-spans.ensures c.totals-totals.ensures.states

pub new-requires-clause-edges : goal.new-requires-clause-edges
new-requires-clause-edges c =
    edges-told c.args.table.now c.args.cores c.args.builder.now c.args.levels.items c.requires.built c.totals-totals.ensures.standing c.in_ok-spans.spans.items c.totals-totals.result.1 c.in_ok-spans.ensures c.totals-totals.ensures.edges

pub returns : goal.returns
returns c =
    c.new.ensures ∙ graph-is c.args.table.now c.args.cores c.args.builder.now c.args.levels.items c.requires.built c.in_ok-spans.spans.items c.in_ok-spans.ensures
