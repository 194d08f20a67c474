use Rattle.sag_engine.proofs.RunLemmas.{told_by}
use Rattle.sag_engine.proofs.explain.tell_halt.Goals as goal

pub returns-in-Usage : goal.returns-in-Usage
returns-in-Usage g c = rw c.in-Usage.is (told_by _ _ _ _ c.write_fault.ensures)

pub returns-in-Refused : goal.returns-in-Refused
returns-in-Refused g c = rw (c.in-Refused.is, ← c.fault.ensures.fault) (told_by _ _ _ _ c.write_fault-in-Refused.ensures)

pub returns-in-Read : goal.returns-in-Read
returns-in-Read g c = rw c.in-Read.is (told_by _ _ _ _ c.write_fault-in-Read.ensures)

pub returns-in-Write : goal.returns-in-Write
returns-in-Write g c = rw c.in-Write.is (told_by _ _ _ _ c.write_fault-in-Write.ensures)

pub returns-in-Memory : goal.returns-in-Memory
returns-in-Memory g c = rw c.in-Memory.is (told_by _ _ _ _ c.write_fault-in-Memory.ensures)
