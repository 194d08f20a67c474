use Rattle.workload_gen.proofs.WorkloadLemmas.{chains-join_jobs, chains-keep_rules}
use Rattle.workload_gen.proofs.workload.generate.Goals as goal

pub with_edges-requires-clause-in_range : goal.with_edges-requires-clause-in_range
with_edges-requires-clause-in_range c =
    rw (c.deref.ensures.value, c.in_ok-edges.ensures, c.in_ok-table.ensures) (chains-join_jobs c.args.number c.args.jobs)

-- the chains keep the rules of edges, so the fault is want of memory
pub unreachable-requires : goal.unreachable-requires
unreachable-requires c =
    c.in-Err.ensures.refused c.in_default.not-Memory (rw (c.deref.ensures.value, c.in_ok-edges.ensures) (chains-keep_rules c.args.jobs c.requires.few))
