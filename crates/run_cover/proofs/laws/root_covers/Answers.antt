use Rattle.run_cover.proofs.RootCovers as law
use Rattle.run_cover.proofs.laws.root_covers.Goals as goal

pub returns : goal.returns
returns c = law.root_covers
