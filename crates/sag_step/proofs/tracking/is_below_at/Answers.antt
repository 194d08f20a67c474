use Rattle.std.proofs.Common.{◌≡◌, ◌∙◌, sym, ap, rules}
use Rattle.std.specs.Prelude.{nat_lt}
use Rattle.sag_step.specs.Tracks.{begins_below}
use Rattle.lists.proofs.Elements.{drop_next}
use Rattle.sag_step.proofs.tracking.is_below_at.Goals as goal

pub returns-then-place-len : goal.returns-then-place-len
returns-then-place-len c =
    let less : c.lt.result ≡ nat_lt c.at.result.0 c.args.job = search rules in
    less ∙ sym (ap (begins_below c.args.job) (drop_next c.args.ends.now.items c.args.place c.at.result c.at.ensures.item))
