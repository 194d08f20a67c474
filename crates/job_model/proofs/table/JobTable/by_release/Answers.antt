use Rattle.std.proofs.Common.{◌≡◌, ◌∙◌, ap, subst, sym}
use Rattle.job_model.specs.Releases.{IsReleaseOrder, release_order}
use Rattle.job_model.proofs.ReleaseLemmas.{IsReleaseOrder-is}
use Rattle.job_model.proofs.table.JobTable.by_release.Goals as goal

pub returns-clause-rising : goal.returns-clause-rising
returns-clause-rising c =
    let order : c.deref.result.now ≡ release_order c.args.self.now = c.deref.ensures.value ∙ c.self.invariant.2 ∙ ap release_order c.self.view_is in
    subst (λ xs. IsReleaseOrder c.args.self.now xs) (sym order) (IsReleaseOrder-is c.args.self.now)
