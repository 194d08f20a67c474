use Rattle.graph_check.proofs.Soundness as law
use Rattle.graph_check.proofs.laws.spans_hold.Goals as goal

pub returns : goal.returns
returns c = law.spans_hold c.root_covers.ensures c.steps_cover.ensures c.wider_states_cover.ensures
