use Rattle.std.proofs.Common.{sym, ◌∙◌}
use Rattle.start_windows.proofs.EndLists.{is_above-by_last}
use Rattle.start_windows.proofs.ends.comes_last.Goals as goal

pub returns-in-Some : goal.returns-in-Some
returns-in-Some c = c.lt.ensures ∙ is_above-by_last c.args.items.now c.requires c.args.job c.in-Some.field-0.now (sym c.in-Some.ensures.value)
