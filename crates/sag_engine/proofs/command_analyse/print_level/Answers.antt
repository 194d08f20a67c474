use Rattle.std.proofs.Common.{subst}
use Rattle.sag_engine.specs.RunEnds.{Writes}
use Rattle.sag_engine.proofs.AnalyseLemmas.{level_written}
use Rattle.sag_engine.proofs.command_analyse.print_level.Goals as goal

pub returns-in-Ok : goal.returns-in-Ok
returns-in-Ok g c =
    let text = level_written c.args.builder.now c.in-Ok.ensures.standing c.deref.ensures.value c.in-Ok.ensures.ok c.clear.ensures.items in
    subst (λ x. Writes {T = Unit {0}} x (g.O.Sink.seen c.args.out.now) (g.O.Sink.seen c.deliver.new.out) c.deliver.result) text c.deliver.ensures
