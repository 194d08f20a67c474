use Rattle.std.proofs.lemmas.Result.{err_from_is_err_and}
use Rattle.job_model.proofs.TableLemmas.{no-table}
use Rattle.job_model.proofs.table.JobTable.from_rows.Goals as goal

pub returns-in_err-ids-clause-refused : goal.returns-in_err-ids-clause-refused
returns-in_err-ids-clause-refused c =
    let p = err_from_is_err_and c.from_residual.result c.from_residual.ensures.1 in
    let first = rw c.deref.ensures.value at c.in_err-ids.ensures.fault in
    rw (p.1, p.2) (λ other. no-table c.args.rows.items c.in_err-ids.field-0.0 other first)
