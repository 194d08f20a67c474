use Rattle.sag_engine.proofs.SelftestLemmas as law
use Rattle.sag_engine.proofs.laws.words_suffice.Goals as goal

pub returns : goal.returns
returns c = law.words_suffice c.one_command.ensures
