use Rattle.sag_engine.proofs.SelftestLemmas.{selftest_runs}
use Rattle.sag_engine.proofs.command_selftest.run_selftest.Goals as goal

pub returns-in-Ok : goal.returns-in-Ok
returns-in-Ok g c = selftest_runs c.args.number c.args.cores c.in-Ok.table c.in-Ok.ensures c.print_summary.ensures
