use Rattle.graph_valid.proofs.EachJob as walk
use Rattle.graph_valid.proofs.BuiltGraph as law
use Rattle.graph_valid.proofs.laws.each_job_has_edge.Goals as goal

pub returns : goal.returns
returns c = law.each_job_has_edge (walk.each_job_has_edge c.root_is_shaped.ensures c.some_step_is_left.ensures c.next_is_state.ensures c.hull_is_state.ensures)
