use Rattle.std.proofs.Common.{◌-◌, length}
use Rattle.sag_engine.proofs.AnalyseLemmas.{Printing}
use Rattle.sag_engine.proofs.command_analyse.print_graph.Given as goal

-- what was printed is the text down to the level at which the builder stands
abbrev pub invariant-loop-went : goal.invariant-loop-went
invariant-loop-went g l = Printing l.table l.cores l.budget l.builder (g.O.Sink.seen l.fn.out) (g.O.Sink.seen l.out)

abbrev pub decreases-loop-went : goal.decreases-loop-went
decreases-loop-went g l = length l.table.jobs - l.builder.level
