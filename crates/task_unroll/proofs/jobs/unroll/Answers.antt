use Rattle.std.proofs.Common.{◌≤◌, arith, length}
use Rattle.job_model.specs.declared.limits.TheConstants.{MOST_JOBS}
use Rattle.task_unroll.specs.declared.fault.TaskFault.TheVariants as fault
use Rattle.task_unroll.specs.Unrolled.{released_count, unrolled}
use Rattle.task_unroll.proofs.UnrolledTable.{few_from, length-unrolled, unrolled_table}
use Rattle.task_unroll.proofs.UnrollFaults.{not_table}
use Rattle.task_unroll.proofs.jobs.unroll.Goals as goal

pub returns-in-Some-clause-refused : goal.returns-in-Some-clause-refused
returns-in-Some-clause-refused c other =
    not_table c.args.policy c.args.tasks.now c.args.horizon c.requires.tasks (fault.Late c.in-Some.row) other c.in-Some.ensures.late

pub returns-then-too_many-clause-fault : goal.returns-then-too_many-clause-fault
returns-then-too_many-clause-fault c =
    (c.in_default.ensures.none, omega (arith, length-unrolled c.args.policy c.args.tasks.now c.args.horizon, c.too_many.ensures.0 c.if-too_many.true))

pub returns-then-too_many-clause-refused : goal.returns-then-too_many-clause-refused
returns-then-too_many-clause-refused c other =
    not_table c.args.policy c.args.tasks.now c.args.horizon c.requires.tasks fault.TooMany other (returns-then-too_many-clause-fault c)

pub unreachable-requires : goal.unreachable-requires
unreachable-requires c =
    let policy = c.args.policy in
    let tasks = c.args.tasks.now in
    let horizon = c.args.horizon in
    let few : length (unrolled policy tasks horizon) ≤ MOST_JOBS =
    omega (arith, length-unrolled policy tasks horizon, few_from c.too_many.result MOST_JOBS (released_count tasks horizon) c.too_many.ensures c.if-too_many.false) in
    let is_table = unrolled_table policy tasks horizon c.requires.tasks c.in_default.ensures.none few in
    let no_table = rw c.in-Ok.ensures at (c.in-Err.ensures.refused c.in_default-fault.not-Memory) in
    no_table is_table
