use Rattle.std.proofs.Common.{◌≡◌, ◌<◌, length, ap, ◌∙◌, arith}
use Rattle.graph_check.specs.Kept.{hulls_with}
use Rattle.graph_check.proofs.WidenedHulls.{hulls-set}
use Rattle.graph_check.proofs.hulls.Hulls.widen.Goals as goal

pub returns : goal.returns
returns c =
    let items = c.self.inside.items.items in
    let place = c.from-place.result in
    let is_place : place ≡ c.args.job = c.from-place.ensures ∙ c.job.view_is in
    let is_seen : items ≡ c.args.self.now = c.self.view_is in
    let lt : place < length items = (let long = ap length is_seen in omega (arith, long, c.requires, is_place)) in
    hulls-set items place c.args.finish c.wider.result c.index.result.now lt c.index.ensures c.wider.ensures
    ∙ ap (λ j. hulls_with items j c.args.finish) is_place
    ∙ ap (λ hs. hulls_with hs c.args.job c.args.finish) is_seen
