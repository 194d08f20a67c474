use Rattle.std.proofs.Common.{◌∙◌, ap, map}
use Rattle.std.proofs.lemmas.Result.{err_from_is_err_and}
use Rattle.task_unroll.specs.TaskFaults.{task_fault_of}
use Rattle.task_unroll.specs.TaskRows.{TaskRows, task_columns}
use Rattle.task_unroll.proofs.TaskLists.{tasks-same}
use Rattle.task_unroll.proofs.read.read_tasks.Goals as goal

pub returns-in_err-rows-clause-refused : goal.returns-in_err-rows-clause-refused
returns-in_err-rows-clause-refused c =
    let p = err_from_is_err_and c.from_residual.result c.from_residual.ensures.1 in
    rw (p.1, p.2) (λ other list reads are. c.in_err-rows.ensures.refused (λ e. other (ap task_fault_of e)) (map task_columns list) reads)

pub returns-in_err-check_tasks-clause-refused : goal.returns-in_err-check_tasks-clause-refused
returns-in_err-check_tasks-clause-refused c =
    let p = err_from_is_err_and c.from_residual-in_err-check_tasks.result c.from_residual-in_err-check_tasks.ensures.1 in
    let bytes = c.args.bytes.now in
    let reads : TaskRows bytes c.deref.result.now = rw (c.deref.ensures.value, c.in-Ok.ensures) c.in_ok-rows.ensures.rows in
    let first = c.in_err-check_tasks.ensures.fault bytes reads in
    rw (p.1, p.2) (λ other list reads' are. c.tasks_keep_rules.ensures bytes list reads' are c.in_err-check_tasks.field-0.0 other first)

pub returns-clause-only : goal.returns-clause-only
returns-clause-only c list reads = tasks-same c.in-Ok.tasks.items list (c.in-Ok.ensures ∙ c.in_ok-rows.ensures.only (map task_columns list) reads)
