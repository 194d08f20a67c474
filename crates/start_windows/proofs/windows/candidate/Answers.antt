use Rattle.start_windows.proofs.Passing.{predecessors-below}
use Rattle.start_windows.proofs.windows.candidate.Goals as goal

pub contains_all-requires : goal.contains_all-requires
contains_all-requires c = rw (c.preds.ensures.preds, c.requires.size) (predecessors-below c.args.table.now c.preds.ensures.table c.args.job)
