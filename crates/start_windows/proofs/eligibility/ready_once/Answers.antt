use Rattle.std.proofs.Common.{◌∙◌, ap, sym}
use Rattle.start_windows.specs.declared.eligibility.Prospect.{Prospect}
use Rattle.start_windows.proofs.Held.{ready_beside-apart}
use Rattle.start_windows.proofs.eligibility.ready_once.Goals as goal

pub returns-then-wait_apart : goal.returns-then-wait_apart
returns-then-wait_apart c =
    ap (λ (x : Prospect). x.latest) c.requires.prospect
    ∙ ready_beside-apart c.args.table.now c.args.ends.now.items c.args.job c.args.other.now.job (sym c.wait_apart.ensures ∙ c.if-wait_apart.true)
