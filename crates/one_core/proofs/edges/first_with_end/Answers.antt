use Rattle.std.proofs.Common.{◌≡◌, ℕ, ◌-◌, ◌<◌, ◌&&◌, ◌==◌, Bool, find, length, arith, ap, sym, ◌∙◌, Some, None}
use Rattle.sag_graph.specs.declared.edge.Edge.{Edge}
use Rattle.sag_graph.specs.Spans.{edge_finish}
use Rattle.graph_memory.specs.Held.{level_in}
use Rattle.one_core.specs.Extreme.{numbered_edges, own_end}
use Rattle.one_core.proofs.Numbered.{find-here, find-later}
use Rattle.one_core.proofs.edges.first_with_end.Goals as goal

pub returns-in-Some : goal.returns-in-Some
returns-in-Some c =
    let a = c.args in
    let test : Edge → Bool = λ e. (e.job == a.job) && (own_end a.end (edge_finish a.table.now e) == a.t) in
    let below : c.loop-k.k < length a.graph.now.levels = omega (arith, c.levels-k-end.ensures.count, c.loop-k-test.true) in
    let found : find test (level_in a.graph.now c.loop-k.k).edges ≡ Some c.in-Some.edge = ap (find test) (sym c.edges.ensures.edges) ∙ sym c.edge_with_end.ensures ∙ c.in-Some.is in
    let whole : find (λ (e : ℕ × Edge). test e.1) (numbered_edges a.graph.now) ≡ Some (c.loop-k.k - 1, c.in-Some.edge) = c.loop-k.invariant ∙ find-here test a.graph.now.levels c.loop-k.k below c.in-Some.edge found in
    sym (whole ∙ ap (λ i. Some (i, c.in-Some.edge)) (sym c.saturating_sub.ensures))

pub loop-k-preserved : goal.loop-k-preserved
loop-k-preserved c =
    let a = c.args in
    let test : Edge → Bool = λ e. (e.job == a.job) && (own_end a.end (edge_finish a.table.now e) == a.t) in
    let below : c.loop-k.k < length a.graph.now.levels = omega (arith, c.levels-k-end.ensures.count, c.loop-k-test.true) in
    let none : find test (level_in a.graph.now c.loop-k.k).edges ≡ None = ap (find test) (sym c.edges.ensures.edges) ∙ sym c.edge_with_end.ensures ∙ c.in_default.is in
    c.loop-k.invariant ∙ find-later test a.graph.now.levels c.loop-k.k below none
