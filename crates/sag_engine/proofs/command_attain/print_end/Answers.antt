use Rattle.std.proofs.Common.{◌∙◌}
use Rattle.sag_engine.proofs.AttainLemmas.{end_printed}
use Rattle.sag_engine.proofs.command_attain.print_end.Goals as goal

pub returns-in-Ok-scenario_of : goal.returns-in-Ok-scenario_of
returns-in-Ok-scenario_of g c =
    end_printed c.args.table.now c.args.job c.args.end c.args.budget c.deref.result.now c.in-Ok.ensures.within
    (c.deref.ensures.value ∙ c.in-Ok-scenario_of.ensures) c.print.ensures
