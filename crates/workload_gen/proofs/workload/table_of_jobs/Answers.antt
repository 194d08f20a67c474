use Rattle.workload_gen.proofs.WorkloadLemmas.{jobs-are_table}
use Rattle.workload_gen.proofs.workload.table_of_jobs.Goals as goal

-- the jobs are a table, so the fault is want of memory
pub unreachable-requires : goal.unreachable-requires
unreachable-requires c =
    c.in-Err.ensures.refused c.in_default.not-Memory (rw c.in_ok-rows.ensures (jobs-are_table c.args.number c.args.count c.requires))
