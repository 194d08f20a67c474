use Rattle.std.proofs.Common.{◌∙◌, ap, length}
use Rattle.sag_graph.specs.Graph.{AbstractionGraph}
use Rattle.sag_engine.proofs.SelftestLemmas.{span_of_each}
use Rattle.sag_engine.proofs.command_selftest.summary_of.Goals as goal

pub count_misses-requires : goal.count_misses-requires
count_misses-requires c = ap (λ (g : AbstractionGraph). length g.spans) c.requires ∙ span_of_each c.args.table.now c.args.cores
