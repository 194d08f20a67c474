use Rattle.sag_time.proofs.SortedLists as law
use Rattle.sag_time.proofs.laws.start_keeps_order.Goals as goal

pub returns : goal.returns
returns c = law.start_keeps_order
