use Rattle.std.proofs.Common.{◌≡◌, ap, arith, ◌∙◌}
use Rattle.graph_builder.proofs.LineLemmas.{edges_next, edges_past}
use Rattle.graph_builder.proofs.TextLemmas.{begins_more, line_moved, lines_moved}
use Rattle.graph_builder.proofs.WritableLemmas.{timed_at}
use Rattle.graph_builder.proofs.writing.write_edges.Goals as goal

pub write_edge-requires : goal.write_edge-requires
write_edge-requires c = timed_at c.args.edges.now c.loop-i.i c.index-edges-i.result c.requires c.loop-i-test.true c.index-edges-i.is

pub loop-i-preserved : goal.loop-i-preserved
loop-i-preserved c =
    let now = c.in_ok-write_edge.ensures.ok in
    record {
      lines = line_moved c.loop-i.into.items c.write_edge.new.into.items _ _ _ _ (edges_next c.args.edges.now c.loop-i.i c.index-edges-i.result c.loop-i-test.true c.index-edges-i.is) now
          c.loop-i.invariant.lines;
      begins = begins_more c.args.into.now.items c.loop-i.into.items c.write_edge.new.into.items _ c.loop-i.invariant.begins now;
    }

pub returns-clause-ok : goal.returns-clause-ok
returns-clause-ok c = lines_moved c.loop-i.into.items _ _ (edges_past c.args.edges.now c.loop-i.i c.loop-i-test.false) c.loop-i.invariant.lines
