use Rattle.std.proofs.Common.{◌≡◌, ap, arith, drop, length, map, sym, ◌∙◌}
use Rattle.lists.specs.Numbers.{numbers_below}
use Rattle.graph_builder.specs.Writing.{origin_at}
use Rattle.graph_builder.proofs.LineLemmas.{drop_back, origins_more, origins_none}
use Rattle.graph_builder.proofs.TextLemmas.{dropped}
use Rattle.graph_builder.proofs.writing.origins_by.Goals as goal

pub loop-i-init : goal.loop-i-init
loop-i-init c =
    c.in_ok-origins.ensures.items_if_clones_equal (λ y h. h)
    ∙ origins_none c.args.count
    ∙ ap (λ es. map (origin_at es) (numbers_below c.args.count)) (sym (dropped (length c.args.edges.now) c.args.edges.now (omega arith)))

pub loop-i-preserved : goal.loop-i-preserved
loop-i-preserved c =
    let e = c.index-edges-i.result in
    let i = c.loop-i.i in
    let edges = c.args.edges.now in
    c.note_origin.ensures
    ∙ origins_more e (drop i edges) c.args.count c.loop-i.origins.items c.loop-i.invariant
    ∙ ap (λ es. map (origin_at es) (numbers_below c.args.count)) (sym (drop_back edges i e c.loop-i-test.true c.loop-i.auto.i c.index-edges-i.is))
