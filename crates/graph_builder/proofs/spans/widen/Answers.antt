use Rattle.std.proofs.Common.{◌∙◌}
use Rattle.graph_builder.proofs.SpanLemmas.{spans-fit, spans-more, spans-count}
use Rattle.graph_builder.proofs.FitLemmas.{edge-at}
use Rattle.graph_builder.proofs.spans.widen.Goals as goal

pub loop-i-preserved : goal.loop-i-preserved
loop-i-preserved c =
    let e = c.index-edges-i.result in
    let edge = edge-at c.args.table.now 4611686018427387903 c.args.edges.now c.loop-i.i e c.requires.edges c.loop-i-test.true c.index-edges-i.is in
    record {
      spans = λ before is. spans-more c.args.table.now (before) c.args.edges.now c.loop-i.i e c.loop-i-test.true c.index-edges-i.is edge.is_job c.loop-i.spans.items
          (c.loop-i.invariant.spans before is) c.finish-finish.result c.finish-finish.ensures c.widen_span.new.spans.items c.widen_span.ensures;
      count = spans-count c.loop-i.spans.items c.widen_span.new.spans.items e.job _ c.widen_span.ensures ∙ c.loop-i.invariant.count;
      fit = spans-fit c.args.table.now 4611686018427387903 e edge c.loop-i.spans.items c.finish-finish.result c.finish-finish.ensures c.widen_span.new.spans.items c.widen_span.ensures
          c.loop-i.invariant.fit;
    }
