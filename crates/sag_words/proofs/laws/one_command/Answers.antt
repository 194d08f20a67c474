use Rattle.sag_words.proofs.OneCommand as law
use Rattle.sag_words.proofs.laws.one_command.Goals as goal

pub returns : goal.returns
returns c = law.one_command
