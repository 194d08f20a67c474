use Rattle.graph_check.proofs.Soundness as law
use Rattle.graph_check.proofs.laws.a_yes_is_sound.Goals as goal

pub returns : goal.returns
returns c = law.a_yes_is_sound c.spans_hold.ensures
