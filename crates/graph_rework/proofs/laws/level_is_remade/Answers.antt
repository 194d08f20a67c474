use Rattle.graph_rework.proofs.RemadeLevels.{level_is_remade}
use Rattle.graph_rework.proofs.laws.level_is_remade.Goals as goal

pub returns : goal.returns
returns c = level_is_remade
