use Rattle.std.proofs.Common.{◌∙◌}
use Rattle.workload_gen.proofs.WorkloadLemmas.{chains_more}
use Rattle.workload_gen.proofs.workload.chains_of.Goals as goal

pub loop-group-preserved : goal.loop-group-preserved
loop-group-preserved c = c.in_ok-push.ensures.items ∙ chains_more c.loop-group.group c.loop-group.edges.items c.loop-group.invariant
