use Rattle.std.proofs.Common.{true, false, refl}
use Rattle.graph_check.specs.Shown.{held_progress}
use Rattle.graph_check.proofs.StateChecks.{no-parent, no-job, no-candidate, origin-is, tested}
use Rattle.graph_check.proofs.progress.Progress.origin.Goals as goal

pub returns-in_default-clause-none : goal.returns-in_default-clause-none
returns-in_default-clause-none c = no-parent (held_progress c.self.inside) c.args.self.now c.self.view_is c.args.parent c.args.job c.in_default.ensures.none

pub returns-in_default-job_number-clause-none : goal.returns-in_default-job_number-clause-none
returns-in_default-job_number-clause-none c =
    no-job (held_progress c.self.inside) c.args.self.now c.self.view_is c.args.parent c.args.job c.in-Some.parent.now.state.state c.in-Some.ensures.some
    (rw c.table-table.ensures at c.in_default-job_number.ensures.none)

pub returns-then-not-candidate-clause-none : goal.returns-then-not-candidate-clause-none
returns-then-not-candidate-clause-none c =
    no-candidate (held_progress c.self.inside) c.args.self.now c.self.view_is c.args.parent c.args.job c.in-Some.parent.now.state.state c.in-Some.ensures.some
    (tested c.candidate.result false c.table-table.result.now _ c.set.result.now _ c.in-Some-job_number.job _ c.candidate.ensures c.if-not-candidate.true c.table-table.ensures c.set.ensures
    c.in-Some-job_number.ensures.some.0)

pub returns-clause-some : goal.returns-clause-some
returns-clause-some c =
    origin-is (held_progress c.self.inside) c.args.self.now c.self.view_is c.args.parent c.args.job c.in-Some.parent.now c.in-Some-job_number.job
    c.in-Some.ensures.some c.in-Some.ensures.fit c.in-Some-job_number.ensures.some.0
    (tested c.candidate.result true c.table-table.result.now _ c.set.result.now _ c.in-Some-job_number.job _ c.candidate.ensures c.if-not-candidate.false c.table-table.ensures c.set.ensures
    refl)
