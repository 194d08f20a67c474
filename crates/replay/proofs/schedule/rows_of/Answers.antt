use Rattle.std.proofs.Common.{rules, ◌<◌, length, arith}
use Rattle.run_meaning.proofs.Ends.{runs_end}
use Rattle.replay.proofs.schedule.rows_of.Goals as goal

pub row_of-requires-clause-fits : goal.row_of-requires-clause-fits
row_of-requires-clause-fits c =
    let is_job : c.no-item.result < length c.args.table.now.jobs = search rules in
    omega (arith, runs_end _ _ _ _ c.len.ensures.table c.requires.fits c.requires.legal.1 c.no-item.result is_job)
