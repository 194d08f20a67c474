use Rattle.sag_engine.proofs.run.run_command.Goals as goal

pub returns-in-Selftest : goal.returns-in-Selftest
returns-in-Selftest g c = rw c.in-Selftest.is (c.run_selftest.ensures (g.F.Files.seen c.args.files.now))
