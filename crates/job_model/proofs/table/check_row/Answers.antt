use Rattle.std.proofs.Common.{sym}
use Rattle.job_model.proofs.table.check_row.Goals as goal

pub returns-in-Some-clause-fault : goal.returns-in-Some-clause-fault
returns-in-Some-clause-fault c rows r same = (r, rw same (sym c.in-Some.ensures))

pub returns-in-Some-first_above-clause-fault : goal.returns-in-Some-first_above-clause-fault
returns-in-Some-first_above-clause-fault c rows r same = (r, rw same (sym c.in_default.ensures), rw same (sym c.in-Some-first_above.ensures))

pub returns-then-job-eq0-clause-fault : goal.returns-then-job-eq0-clause-fault
returns-then-job-eq0-clause-fault c rows r same = (r, rw same (sym c.in_default.ensures), rw same (sym c.in_default-first_above.ensures), rw same c.if-job-eq0.true)
