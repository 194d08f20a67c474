use Rattle.std.proofs.Common.{◌∙◌, ap}
use Rattle.std.specs.Prelude.{nat_lt}
use Rattle.run_cover.proofs.SeenJobs.{first_by_count}
use Rattle.run_cover.proofs.dispatched.is_first.Goals as goal

pub returns : goal.returns
returns c =
    ap (λ n. nat_lt n c.args.count) c.jobs_before.ensures.count
    ∙ first_by_count c.args.table.now c.args.schedule.now c.jobs_before.ensures.table c.args.count c.requires.count c.args.job c.requires.job
