use Rattle.run_audit.proofs.UnbrokenIsLegal.{unbroken_is_legal}
use Rattle.run_audit.proofs.laws.unbroken_is_legal.Goals as goal

pub returns : goal.returns
returns c = unbroken_is_legal c.ranks_order_jobs.ensures
