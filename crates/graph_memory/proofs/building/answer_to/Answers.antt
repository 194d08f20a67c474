use Rattle.graph_memory.proofs.Built.{spent-build}
use Rattle.graph_memory.proofs.building.answer_to.Goals as goal

pub returns-in-Ok : goal.returns-in-Ok
returns-in-Ok c =
    spent-build c.args.table.now c.args.cores c.args.builder.now c.args.levels.items c.requires.built c.in-Ok.graph c.in-Spent.level c.in-Spent.states c.in-Spent.edges c.in-Ok.ensures (rw c.in-Spent.is at c.requires.fault)
