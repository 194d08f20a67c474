use Rattle.sag_engine.proofs.command_report.print_report.Goals as goal

pub returns-in-Ok : goal.returns-in-Ok
returns-in-Ok g c = rw c.in-Yes.is (rw (c.deref.ensures.value, c.in-Ok.ensures) at c.print.ensures)
