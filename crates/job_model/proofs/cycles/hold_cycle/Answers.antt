use Rattle.std.proofs.Common.{arith}
use Rattle.job_model.proofs.WalkBack.{no_cycle-finished}
use Rattle.job_model.proofs.cycles.hold_cycle.Goals as goal

pub returns : goal.returns
returns c =
    let no_cycle = no_cycle-finished c.args.edges.now c.loop-job.marks.items c.args.jobs c.requires (λ j below. c.loop-job.invariant.finished j (omega arith)) c.loop-job.invariant.clear.grounded in
    (λ never. cc, λ cycle. absurd (no_cycle cycle))
