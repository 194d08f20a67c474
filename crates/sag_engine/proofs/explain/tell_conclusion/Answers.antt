use Rattle.sag_engine.proofs.RunLemmas.{told_by, told_nothing}
use Rattle.sag_engine.proofs.explain.tell_conclusion.Goals as goal

pub returns-in-Done : goal.returns-in-Done
returns-in-Done g c = rw c.in-Done.is (told_nothing _)

pub returns-in-No : goal.returns-in-No
returns-in-No g c = rw c.in-No.is (told_nothing _)

pub returns-in-Spent : goal.returns-in-Spent
returns-in-Spent g c = rw c.in-Spent.is (told_by _ _ _ _ c.write_spent.ensures)
