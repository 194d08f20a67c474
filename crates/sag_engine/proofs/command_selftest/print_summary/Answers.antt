use Rattle.std.proofs.Common.{◌∙◌}
use Rattle.sag_engine.specs.declared.command_selftest.TheConstants.{SELFTEST_BUDGET}
use Rattle.sag_engine.proofs.SelftestLemmas.{summary_printed}
use Rattle.sag_engine.proofs.command_selftest.print_summary.Goals as goal

pub returns-in-Ok-summary_text : goal.returns-in-Ok-summary_text
returns-in-Ok-summary_text g c =
    summary_printed c.args.number c.args.table.now c.args.cores SELFTEST_BUDGET c.summary_of.result c.deref.result.now c.in-Ok.ensures.within
    c.summary_of.ensures (c.deref.ensures.value ∙ c.in-Ok-summary_text.ensures) c.print.ensures
