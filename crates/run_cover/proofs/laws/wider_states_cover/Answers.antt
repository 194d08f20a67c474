use Rattle.run_cover.proofs.WiderCovers as law
use Rattle.run_cover.proofs.laws.wider_states_cover.Goals as goal

pub returns : goal.returns
returns c = law.wider_covers
