use Rattle.run_meaning.proofs.StartsAgree as law
use Rattle.run_meaning.proofs.laws.starts_agree.Goals as goal

pub returns : goal.returns
returns c = law.starts_agree
