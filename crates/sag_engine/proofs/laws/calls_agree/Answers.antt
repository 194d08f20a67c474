use Rattle.sag_engine.proofs.OneAnswer as law
use Rattle.sag_engine.proofs.laws.calls_agree.Goals as goal

pub returns : goal.returns
returns c = law.calls_agree c.one_answer.ensures
