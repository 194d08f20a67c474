use Rattle.std.proofs.Common.{arith}
use Rattle.run_meaning.proofs.Ends.{runs_end}
use Rattle.run_cover.proofs.dispatched.finish.Goals as goal

pub overflow_add-result : goal.overflow_add-result
overflow_add-result c = omega (arith, runs_end _ _ _ _ c.len.ensures.table c.requires.fits c.requires.legal.1 c.args.job c.requires.job, c.place_of.ensures.start, c.cost.ensures)
