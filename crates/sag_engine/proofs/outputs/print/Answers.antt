use Rattle.sag_engine.proofs.PrintLemmas.{writes_last}
use Rattle.sag_engine.proofs.outputs.print.Goals as goal

pub returns : goal.returns
returns g c = record { writes = writes_last c.in_ok-deliver.ensures c.close.ensures.writes; conclusion = c.close.ensures.conclusion }
